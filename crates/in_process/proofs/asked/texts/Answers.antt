use Rattle.std.proofs.Common.{◌≡◌, ℕ, zero, suc, ◌+◌, ◌<◌, ◌≤◌, List, [], ◌∷◌, ◌++◌, length, slice_index_or, take, map, Bor, ap, sym, ◌∙◌, subst, arith, refl, rules}
use Rattle.std.proofs.Math.ListN.{get_or-map}
use Rattle.std.proofs.lemmas.List.{map-append, take_more, take_all, length-map}
use Rattle.std.proofs.lemmas.List.Elements.{All-push, All-nil}
use Rattle.std.specs.Prelude.{All, IsUtf8}
use Rattle.in_process.specs.declared.reply.NoReply.{NoReply}
use Rattle.in_process.specs.declared.reply.NoReply.TheVariants.{Memory, Threads, NotText}
use Rattle.in_process.specs.Asked.{HasCause}
use Rattle.in_process.proofs.asked.texts.Goals as goal

abbrev Words : Type 0
Words = List (Bor (List ℕ))

abbrev bytes_of : Words → List (List ℕ)
bytes_of words = map (λ w. w.now) words

-- the bytes of word i
abbrev word : Words → ℕ → List ℕ
word words i = (slice_index_or words i (record { ref_ptr = (0, 0); now = [] })).now

within : (words : Words) (i : ℕ) → i < length words → i < length (bytes_of words)
within words i below = omega (arith, below, length-map words (λ (w : Bor (List ℕ)). w.now))

-- one more word is read
one_more : (texts words : Words) (i : ℕ) (text : Bor (List ℕ)) → i < length words → bytes_of texts ≡ take i (bytes_of words)
    → text.now ≡ word words i → bytes_of (texts ++ text ∷ []) ≡ take (i + 1) (bytes_of words)
one_more texts words i text below same is =
    map-append (λ w. w.now) texts (text ∷ [])
    ∙ (ap (λ xs. xs ++ text.now ∷ []) same
    ∙ (ap (λ x. take i (bytes_of words) ++ x ∷ []) (is ∙ sym (get_or-map (λ w. w.now) words i (record { ref_ptr = (0, 0); now = [] })))
    ∙ sym (take_more (bytes_of words) i [] (within words i below))))

-- the words so far are UTF-8, and so are they with one more that is
more_utf8 : (texts : Words) (text : Bor (List ℕ)) (bytes : List ℕ) → All IsUtf8 (bytes_of texts) → text.now ≡ bytes → IsUtf8 bytes
    → All IsUtf8 (bytes_of (texts ++ text ∷ []))
more_utf8 texts text bytes so_far is utf8 =
    subst (All IsUtf8) (sym (map-append (λ w. w.now) texts (text ∷ [])))
    (All-push IsUtf8 (bytes_of texts) text.now so_far (subst IsUtf8 (sym is) utf8))

-- all words are read
all_read : (texts words : Words) (i : ℕ) → length words ≤ i → bytes_of texts ≡ take i (bytes_of words) → bytes_of texts ≡ bytes_of words
all_read texts words i whole same = same ∙ take_all i (bytes_of words) (omega (arith, whole, length-map words (λ (w : Bor (List ℕ)). w.now)))

-- all words are UTF-8 if each of them was read
all_utf8 : (texts words : Words) (i : ℕ) → length words ≤ i → bytes_of texts ≡ take i (bytes_of words) → All IsUtf8 (bytes_of texts)
    → All IsUtf8 (bytes_of words)
all_utf8 texts words i whole same utf8 = subst (All IsUtf8) (all_read texts words i whole same) utf8

-- in a list of one word
at : {word : List ℕ} (k : ℕ) (d : List ℕ) → k < length (word ∷ []) → IsUtf8 word → IsUtf8 (slice_index_or (word ∷ []) k d)
at zero d first is = is
at (suc k) d first is = absurd (omega (arith, first))

-- a reason that lies in one of the words is one for all of them
cause_of : (no_reply : NoReply) (words : Words) (i : ℕ) → i < length words → HasCause (word words i ∷ []) no_reply
    → HasCause (bytes_of words) no_reply
cause_of Memory words i below cause = tt
cause_of Threads words i below cause = absurd cause
cause_of NotText words i below cause =
    λ all. cause (λ k d first. at k d first (subst IsUtf8 (get_or-map (λ w. w.now) words i (record { ref_ptr = (0, 0); now = [] })) (all i [] (within words i below))))

pub returns-in_err-text-clause-cause : goal.returns-in_err-text-clause-cause
returns-in_err-text-clause-cause c = search (rules, cause_of)

pub returns-clause-texts : goal.returns-clause-texts
returns-clause-texts c = all_read c.loop-word.texts.items c.args.words.now c.loop-word.word-index c.loop-word-test.false c.loop-word.invariant.same

pub returns-clause-utf8 : goal.returns-clause-utf8
returns-clause-utf8 c =
    all_utf8 c.loop-word.texts.items c.args.words.now c.loop-word.word-index c.loop-word-test.false c.loop-word.invariant.same c.loop-word.invariant.utf8

pub loop-word-init : goal.loop-word-init
loop-word-init c = record {
  same = rw c.new-texts.ensures.items refl;
  utf8 = rw c.new-texts.ensures.items (All-nil IsUtf8);
}

pub loop-word-preserved : goal.loop-word-preserved
loop-word-preserved c = record {
  same = rw (c.push.ensures.items, c.if-is_err.ensures.negation)
      (one_more c.loop-word.texts.items c.args.words.now c.loop-word.word-index c.in_ok-text.text c.loop-word-test.true c.loop-word.invariant.same c.in_ok-text.ensures.text);
  utf8 = rw (c.push.ensures.items, c.if-is_err.ensures.negation)
      (more_utf8 c.loop-word.texts.items c.in_ok-text.text _ c.loop-word.invariant.utf8 c.in_ok-text.ensures.text c.in_ok-text.ensures.utf8);
}
