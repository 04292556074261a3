-- A chart with one more row filled in. The newest row stands first.
use Rattle.std.proofs.Common.{◌≡◌, ℕ, zero, suc, ◌||◌, ap, take, drop, ◌+◌, ◌-◌, ◌*◌, ◌<◌, ◌≤◌, ◌≢◌, ◌==◌, Bool, true, false, cond, List, [], ◌∷◌, ◌++◌, length, set, replicate, codes, refl, sym, ◌∙◌, arith, append_assoc, ne_eqb}
use Rattle.std.proofs.lemmas.Bool.{cond_both}
use Rattle.std.proofs.lemmas.List.{length-append, length-replicate, length-drop, length-take-le, drop-drop, set_at, append-nil}
use Rattle.mc_task.specs.declared.task.JobId.{JobId}
use Rattle.mc_task.specs.declared.task.Task.{Task}
use Rattle.mc_task.specs.TaskSet.{IsIn}
use Rattle.mc_model.specs.declared.row.How.{How}
use Rattle.mc_model.specs.declared.row.How.TheVariants.{More}
use Rattle.mc_model.specs.declared.row.Row.{Row}
use Rattle.mc_model.specs.declared.row.Row.TheVariants.{Release, Tick, Idle}
use Rattle.mc_model.specs.Rows.{ticks}
use Rattle.mc_model.specs.Mode.{is_over}
use Rattle.mc_model.proofs.Booleans.{eqb-refl}
use Rattle.sched_chart.specs.ChartText.{how_mark, task_marks, over_stands, mode_mark, mode_marks, name_width, lines_with, chart_line, chart_text}
use Rattle.sched_chart.specs.Sheet.{line_length, place, filled, task_marks_to, mode_marks_to, chart_to}
use Rattle.sched_chart.proofs.Lines.{set_after, set-line, set-lines, lines_same, length-line, length-lines}

-- the blanks that are left are one blank and the rest
blank_next : (n t b : ℕ) (marks : List ℕ) → t < n → marks ++ replicate (n - t) b ≡ (marks ++ b ∷ []) ++ replicate (n - (t + 1)) b
blank_next n t b marks h = (let left : n - t ≡ suc (n - (t + 1)) = omega arith in rw left (sym (append_assoc marks (b ∷ []) _)))

-- setting the first blank to a character adds the character
set_next : (n t b v : ℕ) (marks : List ℕ) → t < n → length marks ≡ t → set (marks ++ replicate (n - t) b) t v ≡ (marks ++ v ∷ []) ++ replicate (n - (t + 1)) b
set_next n t b v marks h long =
    let left : n - t ≡ suc (n - (t + 1)) = omega arith in
    rw left (set_at marks b (replicate (n - (t + 1)) b) v t long ∙ sym (append_assoc marks (v ∷ []) _))

length-how : (how : How) → length (how_mark how) ≡ 1
length-how More = refl
length-how how = refl

-- a task's line has one character for each tick
length-marks : (k : ℕ) (g : List Row) → length (task_marks k g) ≡ ticks g
length-marks k [] = refl
length-marks k (Release j kept ∷ g) = length-marks k g
length-marks k (Tick j how ∷ g) =
    let one = cond_both (j.task.0 == k) (how_mark how) (codes ".") (λ m. length m ≡ 1) (λ own. length-how how) (λ other. refl) in
    simp length-append (omega (arith, length-marks k g, one))
length-marks k (Idle ∷ g) = simp length-append (omega (arith, length-marks k g))

length-mode : (b : Bool) → length (mode_mark b) ≡ 1
length-mode true = refl
length-mode false = refl

length-modes : (g : List Row) → length (mode_marks g) ≡ ticks g
length-modes [] = refl
length-modes (Release j kept ∷ g) = length-modes g
length-modes (row ∷ g) = simp length-append (omega (arith, length-modes g, length-mode (over_stands g)))

-- a task's line, with its blanks, has n characters
length-task_marks_to : (n : ℕ) (g : List Row) → ticks g ≤ n → (k : ℕ) → length (task_marks_to n g k) ≡ n
length-task_marks_to n g h k = simp (length-append, length-replicate) (omega (arith, length-marks k g))

length-mode_marks_to : (n : ℕ) (g : List Row) → ticks g ≤ n → length (mode_marks_to n g) ≡ n
length-mode_marks_to n g h = simp (length-append, length-replicate) (omega (arith, length-modes g))

-- the width of names is at least that of `(mode)`
pub least_width : (ts : List Task) → 6 ≤ name_width ts
least_width [] = omega arith
least_width (t ∷ ts) = omega (arith, least_width ts)

-- the chart has as many lines of the same length as tasks, and one more
pub length-chart : (tasks : List Task) (n : ℕ) (g : List Row) → ticks g ≤ n → length (chart_to tasks n g) ≡ (length tasks + 1) * line_length (name_width tasks) n
unfolding chart_to
length-chart tasks n g h =
    let width : ℕ = name_width tasks in
    let lines = length-lines (task_marks_to n g) width n 1 tasks (omega arith) (length-task_marks_to n g h) in
    let last = length-line width n (codes "(mode)") (mode_marks_to n g) (least_width tasks) (length-mode_marks_to n g h) in
    rw (length-append (lines_with (task_marks_to n g) width 1 tasks) _, lines, last) (omega arith)

-- the lines of the tasks and of the mode, with these characters
abbrev chart_with : List Task → (ℕ → List ℕ) → List ℕ → List ℕ
chart_with tasks f marks = lines_with f (name_width tasks) 1 tasks ++ chart_line (name_width tasks) (codes "(mode)") marks

-- the characters of the modes, with high mode at this tick if the mode is high
abbrev with_mode : Bool → List Task → ℕ → ℕ → List ℕ → List ℕ
with_mode high tasks n tick chart = cond high (set chart (place (name_width tasks) n (length tasks) tick) 72) chart

-- setting the character of the mode adds the next one to the last line
mode_line : (tasks : List Task) (n : ℕ) (f : ℕ → List ℕ) (g : List Row) (high : Bool) → ((m : ℕ) → length (f m) ≡ n) → ticks g < n
    → with_mode high tasks n (ticks g) (chart_with tasks f (mode_marks_to n g))
    ≡ chart_with tasks f ((mode_marks g ++ mode_mark high) ++ replicate (n - (ticks g + 1)) 76)
mode_line tasks n f g true each h =
    let width : ℕ = name_width tasks in
    let lines = length-lines f width n 1 tasks (omega arith) each in
    let long : ticks g < length (mode_marks_to n g) = rw (length-mode_marks_to n g (omega arith)) h in
    let last : List ℕ = chart_line width (codes "(mode)") (mode_marks_to n g) in
    let later_part = set_after (lines_with f width 1 tasks) last (length tasks * line_length width n) (width + 1 + ticks g) 72 lines in
    let marked = set-line width (ticks g) 72 (codes "(mode)") (mode_marks_to n g) (least_width tasks) long in
    rw (later_part, marked, set_next n (ticks g) 76 72 (mode_marks g) h (length-modes g)) refl
mode_line tasks n f g false each h = rw (blank_next n (ticks g) 76 (mode_marks g) h) refl

-- setting the character of a tick adds the next one to the line of its task
pub chart-tick : (tasks : List Task) (n v : ℕ) (j : JobId) (how : How) (g : List Row) (high : Bool) → IsIn tasks j.task.0 → ticks g < n → v ∷ [] ≡ how_mark how
    → over_stands g ≡ high
    → with_mode high tasks n (ticks g) (set (chart_to tasks n g) (place (name_width tasks) n (j.task.0 - 1) (ticks g)) v) ≡ chart_to tasks n (Tick j how ∷ g)
unfolding chart_to
chart-tick tasks n v j how g high inside h is mode =
    let k : ℕ = j.task.0 in
    let last : List ℕ = chart_line (name_width tasks) (codes "(mode)") (mode_marks_to n g) in
    let after : ℕ → List ℕ = task_marks_to n (Tick j how ∷ g) in
    let mine : after k ≡ set (task_marks_to n g k) (ticks g) v = rw (eqb-refl k, ← is) (sym (set_next n (ticks g) 46 v (task_marks k g) h (length-marks k g))) in
    let others : (m : ℕ) → m ≢ k → task_marks_to n g m ≡ after m = λ m other. rw (ne_eqb k m (λ same. other (sym same))) (blank_next n (ticks g) 46 (task_marks m g) h) in
    let each = length-task_marks_to n g (omega arith) in
    let line = set-lines (task_marks_to n g) after (name_width tasks) n 1 k (ticks g) v tasks last (omega arith) each inside.0 (omega (arith, inside.1)) h mine others in
    rw (mode, line) (mode_line tasks n after g high (length-task_marks_to n (Tick j how ∷ g) (omega arith)) h)

-- an idle tick sets the mode's character alone
pub chart-idle : (tasks : List Task) (n : ℕ) (g : List Row) (high : Bool) → ticks g < n → over_stands g ≡ high
    → with_mode high tasks n (ticks g) (chart_to tasks n g) ≡ chart_to tasks n (Idle ∷ g)
unfolding chart_to
chart-idle tasks n g high h mode =
    let lines = lines_same (task_marks_to n g) (task_marks_to n (Idle ∷ g)) (name_width tasks) 1 tasks (λ m later. blank_next n (ticks g) 46 (task_marks m g) h) in
    rw (mode, lines) (mode_line tasks n (task_marks_to n (Idle ∷ g)) g high (length-task_marks_to n (Idle ∷ g) (omega arith)) h)

-- with no tick left to fill in, the text is the chart
pub chart-whole : (tasks : List Task) (n : ℕ) (g : List Row) → ticks g ≡ n → chart_to tasks n g ≡ chart_text tasks g
unfolding chart_to chart_text
chart-whole tasks n g h =
    let none : n - ticks g ≡ 0 = omega arith in
    let lines = lines_same (task_marks_to n g) (λ k. task_marks k g) (name_width tasks) 1 tasks (λ m later. rw none (append-nil (task_marks m g))) in
    rw (lines, none, append-nil (mode_marks g)) refl

-- copies of a row before a row of the same kind
copies-between : (m : ℕ) (row : Row) (g : List Row) → replicate m row ++ (row ∷ g) ≡ row ∷ (replicate m row ++ g)
copies-between zero row g = refl
copies-between (suc m) row g = ap (λ (h : List Row). row ∷ h) (copies-between m row g)

ticks-span : (m : ℕ) (j : JobId) (how : How) (g : List Row) → ticks (replicate m (Tick j how) ++ g) ≡ m + ticks g
ticks-span zero j how g = omega arith
ticks-span (suc m) j how g = omega (arith, ticks-span m j how g)

-- one tick of a job sets one character of its task's line
task-tick : (tasks : List Task) (n v : ℕ) (j : JobId) (how : How) (g : List Row) (marks : List ℕ) → IsIn tasks j.task.0 → ticks g < n → v ∷ [] ≡ how_mark how
    → set (chart_with tasks (task_marks_to n g) marks) (place (name_width tasks) n (j.task.0 - 1) (ticks g)) v ≡ chart_with tasks (task_marks_to n (Tick j how ∷ g)) marks
task-tick tasks n v j how g marks inside h is =
    let k : ℕ = j.task.0 in
    let last : List ℕ = chart_line (name_width tasks) (codes "(mode)") marks in
    let after : ℕ → List ℕ = task_marks_to n (Tick j how ∷ g) in
    let mine : after k ≡ set (task_marks_to n g k) (ticks g) v = rw (eqb-refl k, ← is) (sym (set_next n (ticks g) 46 v (task_marks k g) h (length-marks k g))) in
    let others : (m : ℕ) → m ≢ k → task_marks_to n g m ≡ after m = λ m other. rw (ne_eqb k m (λ same. other (sym same))) (blank_next n (ticks g) 46 (task_marks m g) h) in
    let each = length-task_marks_to n g (omega arith) in
    set-lines (task_marks_to n g) after (name_width tasks) n 1 k (ticks g) v tasks last (omega arith) each inside.0 (omega (arith, inside.1)) h mine others

-- m ticks of a job set m characters of its task's line
task-span : (tasks : List Task) (n v m : ℕ) (j : JobId) (how : How) (g : List Row) (marks : List ℕ) → IsIn tasks j.task.0 → ticks g + m ≤ n → v ∷ [] ≡ how_mark how
    → filled (place (name_width tasks) n (j.task.0 - 1) (ticks g)) m v (chart_with tasks (task_marks_to n g) marks)
    ≡ chart_with tasks (task_marks_to n (replicate m (Tick j how) ++ g)) marks
task-span tasks n v zero j how g marks inside h is = refl
task-span tasks n v (suc m) j how g marks inside h is =
    let first = task-tick tasks n v j how g marks inside (omega (arith, h)) is in
    let next : place (name_width tasks) n (j.task.0 - 1) (ticks g) + 1 ≡ place (name_width tasks) n (j.task.0 - 1) (ticks g + 1) = omega arith in
    let rest = task-span tasks n v m j how (Tick j how ∷ g) marks inside (omega (arith, h)) is in
    rw (first, next) (rest ∙ ap (λ (h : List Row). chart_with tasks (task_marks_to n h) marks) (copies-between m (Tick j how) g))

-- in high mode, m ticks of a job set m characters of high mode
mode-high : (tasks : List Task) (n m : ℕ) (f : ℕ → List ℕ) (j : JobId) (how : How) (g : List Row) → ((m : ℕ) → length (f m) ≡ n) → ticks g + m ≤ n → over_stands g ≡ true
    → filled (place (name_width tasks) n (length tasks) (ticks g)) m 72 (chart_with tasks f (mode_marks_to n g))
    ≡ chart_with tasks f (mode_marks_to n (replicate m (Tick j how) ++ g))
mode-high tasks n zero f j how g each h high = refl
mode-high tasks n (suc m) f j how g each h high =
    let first : set (chart_with tasks f (mode_marks_to n g)) (place (name_width tasks) n (length tasks) (ticks g)) 72 ≡ chart_with tasks f (mode_marks_to n (Tick j how ∷ g)) =
    rw high (mode_line tasks n f g true each (omega (arith, h))) in
    let next : place (name_width tasks) n (length tasks) (ticks g) + 1 ≡ place (name_width tasks) n (length tasks) (ticks g + 1) = omega arith in
    let rest = mode-high tasks n m f j how (Tick j how ∷ g) each (omega (arith, h)) (still (is_over how) (over_stands g) high) in
    rw (first, next) (rest ∙ ap (λ (h : List Row). chart_with tasks f (mode_marks_to n h)) (copies-between m (Tick j how) g))
  where
    still : (a b : Bool) → b ≡ true → (a || b) ≡ true
    still a b e = grind arith

-- in low mode, ticks of a job that goes on, and a single tick, set characters of low mode
mode-low : (tasks : List Task) (n m : ℕ) (f : ℕ → List ℕ) (j : JobId) (how : How) (g : List Row) → ((m : ℕ) → length (f m) ≡ n) → ticks g + m ≤ n → over_stands g ≡ false → (2 ≤ m → how ≡ More)
    → chart_with tasks f (mode_marks_to n g) ≡ chart_with tasks f (mode_marks_to n (replicate m (Tick j how) ++ g))
mode-low tasks n zero f j how g each h low one = refl
mode-low tasks n (suc zero) f j how g each h low one = rw low (mode_line tasks n f g false each (omega (arith, h)))
mode-low tasks n (suc (suc m)) f j how g each h low one =
    let more : how ≡ More = one (omega arith) in
    let first : chart_with tasks f (mode_marks_to n g) ≡ chart_with tasks f (mode_marks_to n (Tick j how ∷ g)) = rw low (mode_line tasks n f g false each (omega (arith, h))) in
    let rest = mode-low tasks n (suc m) f j how (Tick j how ∷ g) each (omega (arith, h)) (rw more low) (λ two. more) in
    first ∙ (rest ∙ ap (λ (h : List Row). chart_with tasks f (mode_marks_to n h)) (copies-between (suc m) (Tick j how) g))

-- in high mode, m ticks of a job fill in the chart
pub ticks-high : (tasks : List Task) (n v m : ℕ) (j : JobId) (how : How) (g : List Row) → IsIn tasks j.task.0 → ticks g + m ≤ n → v ∷ [] ≡ how_mark how → over_stands g ≡ true
    → filled (place (name_width tasks) n (length tasks) (ticks g)) m 72 (filled (place (name_width tasks) n (j.task.0 - 1) (ticks g)) m v (chart_to tasks n g))
    ≡ chart_to tasks n (replicate m (Tick j how) ++ g)
unfolding chart_to
ticks-high tasks n v m j how g inside h is high =
    let h' : List Row = replicate m (Tick j how) ++ g in
    let each = length-task_marks_to n h' (omega (arith, ticks-span m j how g)) in
    rw (task-span tasks n v m j how g (mode_marks_to n g) inside h is) (mode-high tasks n m (task_marks_to n h') j how g each h high)

-- in low mode, m ticks of a job fill in the chart
pub ticks-low : (tasks : List Task) (n v m : ℕ) (j : JobId) (how : How) (g : List Row) → IsIn tasks j.task.0 → ticks g + m ≤ n → v ∷ [] ≡ how_mark how → over_stands g ≡ false
    → (2 ≤ m → how ≡ More)
    → filled (place (name_width tasks) n (j.task.0 - 1) (ticks g)) m v (chart_to tasks n g) ≡ chart_to tasks n (replicate m (Tick j how) ++ g)
unfolding chart_to
ticks-low tasks n v m j how g inside h is low one =
    let h' : List Row = replicate m (Tick j how) ++ g in
    let each = length-task_marks_to n h' (omega (arith, ticks-span m j how g)) in
    task-span tasks n v m j how g (mode_marks_to n g) inside h is ∙ mode-low tasks n m (task_marks_to n h') j how g each h low one

-- idle ticks in low mode leave the chart as it is
idles-low : (tasks : List Task) (n m : ℕ) (g : List Row) → ticks g + m ≤ n → over_stands g ≡ false → chart_to tasks n g ≡ chart_to tasks n (replicate m Idle ++ g)
idles-low tasks n zero g h low = refl
idles-low tasks n (suc m) g h low =
    chart-idle tasks n g false (omega (arith, h)) low
    ∙ (idles-low tasks n m (Idle ∷ g) (omega (arith, h)) refl ∙ ap (λ (h : List Row). chart_to tasks n h) (copies-between m Idle g))

-- idle ticks, of which the first has the mode before them, fill in the chart
pub idles : (tasks : List Task) (n m : ℕ) (g : List Row) (high : Bool) → 1 ≤ m → ticks g + m ≤ n → over_stands g ≡ high
    → with_mode high tasks n (ticks g) (chart_to tasks n g) ≡ chart_to tasks n (replicate m Idle ++ g)
idles tasks n zero g high some h mode = absurd (omega arith)
idles tasks n (suc m) g high some h mode =
    chart-idle tasks n g high (omega (arith, h)) mode
    ∙ (idles-low tasks n m (Idle ∷ g) (omega (arith, h)) refl ∙ ap (λ (h : List Row). chart_to tasks n h) (copies-between m Idle g))

-- the mode after m ticks of a job
pub over-ticks : (m : ℕ) (j : JobId) (how : How) (g : List Row) → 1 ≤ m → over_stands (replicate m (Tick j how) ++ g) ≡ (is_over how || over_stands g)
over-ticks zero j how g some = absurd (omega arith)
over-ticks (suc zero) j how g some = refl
over-ticks (suc (suc m)) j how g some = twice (is_over how) (over_stands g) _ (over-ticks (suc m) j how g (omega arith))
  where
    twice : (a b c : Bool) → c ≡ (a || b) → (a || c) ≡ (a || b)
    twice a b c e = grind arith

pub stays-high : (over stands high : Bool) → stands ≡ high → high ≡ true → high ≡ (over || stands)
stays-high over stands high e h = grind arith

pub turns-high : (over stands high : Bool) → stands ≡ high → high ≡ false → over ≡ (over || stands)
turns-high over stands high e h = grind arith

pub over-idles : (m : ℕ) (g : List Row) → 1 ≤ m → over_stands (replicate m Idle ++ g) ≡ false
over-idles zero g some = absurd (omega arith)
over-idles (suc m) g some = refl

filled-after : (x at m v : ℕ) (xs : List ℕ) → filled (suc at) m v (x ∷ xs) ≡ x ∷ filled at m v xs
filled-after x at zero v xs = refl
filled-after x at (suc m) v xs = (let e : suc at + 1 ≡ suc (at + 1) = omega arith in rw e (filled-after x (at + 1) m v (set xs at v)))

-- filling in a range at once is filling it in character by character
pub filled-at : (xs : List ℕ) (at m v : ℕ) → at + m ≤ length xs → take at xs ++ (replicate m v ++ drop (at + m) xs) ≡ filled at m v xs
filled-at [] zero zero v h = refl
filled-at [] (suc at) m v h = absurd (omega arith)
filled-at [] zero (suc m) v h = absurd (omega arith)
filled-at (x ∷ xs) zero zero v h = refl
filled-at (x ∷ xs) zero (suc m) v h =
    let e : 0 + suc m ≡ suc (0 + m) = omega arith in
    rw e (ap (λ (ys : List ℕ). v ∷ ys) (filled-at xs zero m v (omega arith)) ∙ sym (filled-after v zero m v xs))
filled-at (x ∷ xs) (suc at) m v h =
    let e : suc at + m ≡ suc (at + m) = omega arith in
    rw e (ap (λ (ys : List ℕ). x ∷ ys) (filled-at xs at m v (omega arith)) ∙ sym (filled-after x at m v xs))

pub filled-in : (xs : List ℕ) (at m v : ℕ) → at + m ≤ length xs → take at xs ++ (replicate (length (take m (drop at xs))) v ++ drop m (drop at xs)) ≡ filled at m v xs
filled-in xs at m v h =
    let left : length (drop at xs) ≡ length xs - at = length-drop at xs in
    let part : length (take m (drop at xs)) ≡ m = length-take-le m (drop at xs) (omega (arith, left)) in
    rw (part, drop-drop m at xs) (filled-at xs at m v h)
