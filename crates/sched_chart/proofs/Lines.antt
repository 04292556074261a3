-- A character that is set into one of the lines of a chart.
use Rattle.std.proofs.Common.{◌≡◌, ℕ, ◌+◌, ◌-◌, ◌*◌, ◌<◌, ◌≤◌, ◌≢◌, inl, inr, zero, suc, List, get_or, [], ◌∷◌, ◌++◌, length, set, take, replicate, codes, IsTrue, max, refl, sym, ap, ◌∙◌, arith, append_assoc}
use Rattle.std.proofs.lemmas.List.{length-append, length-replicate, replicate_more, set-append_left, set-append_right, take_all, append-nil}
use Rattle.std.proofs.lemmas.Bool.{cases_eq}
use Rattle.std.proofs.lemmas.Bool.Decides.{nat_tests}
use Rattle.mc_task.specs.NameForm.{is_name}
use Rattle.mc_task.specs.declared.task.Task.{Task}
use Rattle.sched_chart.specs.ChartText.{chart_line, name_width, lines_with}
use Rattle.sched_chart.specs.Sheet.{line_length, place, task_marks_to}

-- a name has at most 32 bytes
pub short_name : (name : List ℕ) → IsTrue (is_name name) → length name ≤ 32
short_name name h = grind (arith, nat_tests)

-- no name is longer than the width
pub name_fits : (ts : List Task) (i : ℕ) (d : Task) → i < length ts → length (get_or ts i d).name ≤ name_width ts
name_fits [] i d inside = absurd (omega arith)
name_fits (t ∷ ts) zero d inside = omega arith
name_fits (t ∷ ts) (suc i) d inside = omega (arith, name_fits ts i d (omega arith))

-- the width of names with one more task
pub name_width-more : (ts : List Task) (t : Task) → name_width (ts ++ t ∷ []) ≡ max (name_width ts) (length t.name)
name_width-more [] t = omega arith
name_width-more (u ∷ us) t = omega (arith, name_width-more us t)

pub length-line : (width n : ℕ) (name marks : List ℕ) → length name ≤ width → length marks ≡ n → length (chart_line width name marks) ≡ line_length width n
length-line width n name marks h e = simp (length-append, length-replicate) (omega arith)

pub length-lines : (f : ℕ → List ℕ) (width n k : ℕ) (ts : List Task) → name_width ts ≤ width → ((m : ℕ) → length (f m) ≡ n)
    → length (lines_with f width k ts) ≡ length ts * line_length width n
length-lines f width n k [] fit e = omega arith
length-lines f width n k (t ∷ ts) fit e =
    let rest = length-lines f width n (k + 1) ts (omega arith) e in
    rw (length-append (chart_line width t.name (f k)) _, length-line width n t.name (f k) (omega arith) (e k), rest) (omega arith)

-- setting a character after the first of two lists sets it in the second
pub set_after : (front rest : List ℕ) (m i v : ℕ) → length front ≡ m → set (front ++ rest) (m + i) v ≡ front ++ set rest i v
set_after front rest m i v e = (let back : m + i - m ≡ i = omega arith in rw (set-append_right front rest m (m + i) v e (omega arith), back) refl)

-- setting a character in one line
pub set-line : (width p v : ℕ) (name marks : List ℕ) → length name ≤ width → p < length marks
    → set (chart_line width name marks) (width + 1 + p) v ≡ chart_line width name (set marks p v)
set-line width p v name marks h inside =
    let head : List ℕ = name ++ (replicate (width - length name) 32 ++ codes " ") in
    let long : length head ≡ width + 1 = simp (length-append, length-replicate) (omega arith) in
    let apart : (ms : List ℕ) → chart_line width name ms ≡ head ++ (ms ++ codes "\n") = λ ms. simp append_assoc refl in
    rw (apart marks, apart (set marks p v), set_after head (marks ++ codes "\n") (width + 1) p v long, set-append_left marks (codes "\n") p v inside) refl

-- lines with the same characters are equal
pub lines_same : (f g : ℕ → List ℕ) (width k : ℕ) (ts : List Task) → ((m : ℕ) → k ≤ m → f m ≡ g m) → lines_with f width k ts ≡ lines_with g width k ts
lines_same f g width k [] h = refl
lines_same f g width k (t ∷ ts) h = rw (h k (omega arith), lines_same f g width (k + 1) ts (λ m later. h m (omega arith))) refl

-- setting a character in the line of task number i changes that line alone
pub set-lines : (f g : ℕ → List ℕ) (width n k i p v : ℕ) (ts : List Task) (more : List ℕ) → name_width ts ≤ width → ((m : ℕ) → length (f m) ≡ n) → k ≤ i
    → i < k + length ts → p < n → g i ≡ set (f i) p v → ((m : ℕ) → m ≢ i → f m ≡ g m)
    → set (lines_with f width k ts ++ more) (place width n (i - k) p) v ≡ lines_with g width k ts ++ more
set-lines f g width n k i p v [] more fit e first last small here others = absurd (omega arith)
set-lines f g width n k i p v (t ∷ ts) more fit e first last small here others =
    let line : List ℕ = chart_line width t.name (f k) in
    let rest : List ℕ = lines_with f width (k + 1) ts ++ more in
    let long : length line ≡ line_length width n = length-line width n t.name (f k) (omega arith) (e k) in
    let apart = λ (h : ℕ → List ℕ). append_assoc (chart_line width t.name (h k)) (lines_with h width (k + 1) ts) more in
    elim (cases_eq k i) [
      | inl same ↦
          let start : i - k ≡ 0 = omega arith in
          let at : place width n 0 p ≡ width + 1 + p = omega arith in
          let mine : g k ≡ set (f k) p v = rw same here in
          let tail = lines_same f g width (k + 1) ts (λ m later. others m (λ s. omega arith)) in
          let marked = set-line width p v t.name (f k) (omega arith) (rw (e k) small) in
          rw (apart f, apart g, start, at, set-append_left line rest (width + 1 + p) v (omega arith), marked, tail, mine) refl
      | inr other ↦
          let next : i - k ≡ suc (i - (k + 1)) = omega arith in
          let far : place width n (suc (i - (k + 1))) p ≡ line_length width n + place width n (i - (k + 1)) p = omega arith in
          let after = set-lines f g width n (k + 1) i p v ts more (omega arith) e (omega arith) (omega arith) small here others in
          rw (apart f, apart g, next, far, set_after line rest (line_length width n) _ v long, after, others k other) refl
    ]

-- the lines with one more task, all its ticks still blank
pub lines_more : (n width k : ℕ) (ts : List Task) (t : Task)
    → lines_with (task_marks_to n []) width k (ts ++ t ∷ []) ≡ lines_with (task_marks_to n []) width k ts ++ chart_line width t.name (replicate n 46)
lines_more n width k [] t = (let all : n - 0 ≡ n = omega arith in rw all (append-nil _))
lines_more n width k (u ∷ us) t = rw (lines_more n width (k + 1) us t) (sym (append_assoc (chart_line width u.name (task_marks_to n [] k)) _ _))

-- a text that is filled up to a length with a character
filled_up : (text : List ℕ) (len m k v : ℕ) → length text ≡ len → m ≡ len + k → take m text ++ replicate (m - len) v ≡ text ++ replicate k v
filled_up text len m k v long is = (let missing : m - len ≡ k = omega arith in rw (take_all m text (omega arith), missing) refl)

-- a name, filled up with spaces and then with a character and ended with a line feed, is a line
pub pushed-line : (width n mark l l1 l2 : ℕ) (old t1 t2 t3 t4 name : List ℕ) → length name ≤ width → length old ≡ l → l1 ≡ l + length name → l2 ≡ l + width + 1
    → t1 ≡ old ++ name → t2 ≡ take (l + width + 1) t1 ++ replicate (l + width + 1 - l1) 32
    → t3 ≡ take (l + width + 1 + n) t2 ++ replicate (l + width + 1 + n - l2) mark → t4 ≡ t3 ++ 10 ∷ [] → t4 ≡ old ++ chart_line width name (replicate n mark)
pushed-line width n mark l l1 l2 old t1 t2 t3 t4 name fit e e1 e2 is1 is2 is3 is4 =
    let long1 : length t1 ≡ l1 = omega (arith, ap length is1, length-append old name) in
    let headed : t2 ≡ t1 ++ replicate (width - length name + 1) 32 = is2 ∙ filled_up t1 l1 (l + width + 1) _ 32 long1 (omega arith) in
    let long2 : length t2 ≡ l2 = omega (arith, long1, simp (length-append, length-replicate) at (ap length headed)) in
    let marked : t3 ≡ t2 ++ replicate n mark = is3 ∙ filled_up t2 l2 (l + width + 1 + n) n mark long2 (omega arith) in
    rw (is4, marked, headed, is1, ← replicate_more {X = ℕ} (width - length name) 32) (simp append_assoc refl)
