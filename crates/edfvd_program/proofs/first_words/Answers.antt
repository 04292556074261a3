use Rattle.std.proofs.Common.{◌≡◌, ℕ, List, [], ◌∷◌, length, take, map, Bor, String, string_bytes, Global, refl}
use Rattle.command_line.specs.Form.{form_of, form_in}
use Rattle.edfvd_program.specs.Words.{text_at}
use Rattle.edfvd_program.proofs.first_words.Goals as goal

-- the first six of some texts, or all of them if there are fewer, have the form that all have
same_form : (texts : List (String Global)) (a b c d e f : Bor (List ℕ)) → a.now ≡ text_at texts 0 → b.now ≡ text_at texts 1 → c.now ≡ text_at texts 2 → d.now ≡ text_at texts 3
    → e.now ≡ text_at texts 4
    → form_in (take (length texts) (a ∷ b ∷ c ∷ d ∷ e ∷ f ∷ [])) ≡ form_of (map string_bytes texts)
same_form [] a b c d e f at0 at1 at2 at3 at4 = refl
same_form (s ∷ []) a b c d e f at0 at1 at2 at3 at4 = refl
same_form (s ∷ t ∷ []) a b c d e f at0 at1 at2 at3 at4 = rw (at0, at1) refl
same_form (s ∷ t ∷ u ∷ []) a b c d e f at0 at1 at2 at3 at4 = rw (at0, at1, at2) refl
same_form (s ∷ t ∷ u ∷ v ∷ []) a b c d e f at0 at1 at2 at3 at4 = rw (at0, at1, at2, at3) refl
same_form (s ∷ t ∷ u ∷ v ∷ w ∷ []) a b c d e f at0 at1 at2 at3 at4 = rw (at0, at1, at2, at3, at4) refl
same_form (s ∷ t ∷ u ∷ v ∷ w ∷ x ∷ more) a b c d e f at0 at1 at2 at3 at4 = refl

pub returns : goal.returns
returns c = record {
  form = same_form c.args.texts.now c.word.result c.word-2.result c.word-3.result c.word-4.result c.word-5.result c.word-6.result c.word.ensures c.word-2.ensures c.word-3.ensures c.word-4.ensures c.word-5.ensures;
}
