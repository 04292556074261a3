-- Histories that grow by one entry. Callers may cite these lemmas.
use Rattle.std.proofs.Common.{◌≡◌, ℕ, ◌==◌, ◌≢◌, List, [], ◌∷◌, ◌++◌, sym, ap, ◌∙◌, append-nil, append_assoc, Bool, cond, ne_eqb}
use Rattle.std.proofs.lemmas.Bool.{eq-eqb}
use Rattle.std.proofs.lemmas.List.Elements.{filter-append}
use Rattle.turnstile.specs.History.{StartsWith, made_by}

-- a history begins with itself
pub whole : {E : Type 0} (l : List E) → StartsWith l l
whole l = ([], sym (append-nil l))

-- a longer history begins with all that it began with before
pub longer : {E : Type 0} (more log seen : List E) → StartsWith more log → StartsWith log seen → StartsWith more seen
longer more log seen a b = (b.0 ++ a.0, a.1 ∙ (ap (λ l. l ++ a.0) b.1 ∙ append_assoc seen b.0 a.0))

-- an entry of this seat adds itself to the seat's entries
pub made_yes : {E : Type 0} (by : E → ℕ) (n : ℕ) (log : List E) (e : E) → by e ≡ n → made_by by n (log ++ e ∷ []) ≡ made_by by n log ++ e ∷ []
made_yes by n log e h = filter-append (λ x. by x == n) log (e ∷ []) ∙ ap (λ (b : Bool). made_by by n log ++ cond b (e ∷ []) []) (eq-eqb (by e) n h)

-- an entry of another seat adds nothing to this seat's entries
pub made_no : {E : Type 0} (by : E → ℕ) (n : ℕ) (log : List E) (e : E) → by e ≢ n → made_by by n (log ++ e ∷ []) ≡ made_by by n log
made_no by n log e h = filter-append (λ x. by x == n) log (e ∷ []) ∙ ap (λ (b : Bool). made_by by n log ++ cond b (e ∷ []) []) (ne_eqb (by e) n h) ∙ append-nil (made_by by n log)
