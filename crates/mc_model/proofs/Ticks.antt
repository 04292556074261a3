-- The number of ticks of rows, of the first of them, and of a task's releases.
use Rattle.std.proofs.Common.{◌≡◌, ℕ, ◌+◌, ◌≤◌, ◌<◌, ◌==◌, true, false, cond, List, [], ◌∷◌, ◌++◌, length, get_or, take, drop, reverse, ap, sym, ◌∙◌, arith}
use Rattle.std.proofs.lemmas.List.{reverse-append, take-append-drop, take_more}
use Rattle.mc_model.specs.declared.row.Row.{Row}
use Rattle.mc_model.specs.declared.row.Row.TheVariants.{Release, Tick, Idle}
use Rattle.mc_model.specs.Rows.{ticks, releases}

pub ticks-append : (g h : List Row) → ticks (g ++ h) ≡ ticks g + ticks h
ticks-append [] h = omega arith
ticks-append (Release j kept ∷ g) h = ticks-append g h
ticks-append (Tick j how ∷ g) h = let more : ticks (g ++ h) ≡ ticks g + ticks h = ticks-append g h in omega arith
ticks-append (Idle ∷ g) h = let more : ticks (g ++ h) ≡ ticks g + ticks h = ticks-append g h in omega arith

-- rows have at most one tick each
pub ticks-le : (g : List Row) → ticks g ≤ length g
ticks-le [] = omega arith
ticks-le (Release j kept ∷ g) = let less : ticks g ≤ length g = ticks-le g in omega arith
ticks-le (Tick j how ∷ g) = let less : ticks g ≤ length g = ticks-le g in omega arith
ticks-le (Idle ∷ g) = let less : ticks g ≤ length g = ticks-le g in omega arith

-- a task has no more releases than there are rows
pub releases-le : (g : List Row) (k : ℕ) → releases g k ≤ length g
releases-le [] k = omega arith
releases-le (Release j kept ∷ g) k =
    let rest = releases-le g k in
    elim (j.task.0 == k) as (λ b. cond b 1 0 + releases g k ≤ length (Release j kept ∷ g)) [ true ↦ omega (arith, rest) | false ↦ omega (arith, rest) ]
releases-le (row ∷ g) k = omega (arith, releases-le g k)

-- rows in reverse order have as many ticks
pub ticks-reverse : (g : List Row) → ticks (reverse g) ≡ ticks g
ticks-reverse [] = omega arith
ticks-reverse (row ∷ g) =
    let turned : ticks (reverse (row ∷ g)) ≡ ticks (reverse g) + ticks (row ∷ []) = ap ticks (reverse-append (row ∷ []) g) ∙ ticks-append (reverse g) (row ∷ []) in
    let whole : ticks (row ∷ g) ≡ ticks (row ∷ []) + ticks g = ticks-append (row ∷ []) g in
    let rest : ticks (reverse g) ≡ ticks g = ticks-reverse g in
    omega arith

-- the first rows have at most the ticks of all
pub ticks-take-le : (rows : List Row) (i n : ℕ) → n ≡ ticks (reverse rows) → ticks (reverse (take i rows)) ≤ n
ticks-take-le rows i n whole =
    let first : ticks (reverse (take i rows)) ≡ ticks (take i rows) = ticks-reverse (take i rows) in
    let all : ticks (reverse rows) ≡ ticks rows = ticks-reverse rows in
    let parts : ticks rows ≡ ticks (take i rows) + ticks (drop i rows) = ap ticks (sym (take-append-drop i rows)) ∙ ticks-append (take i rows) (drop i rows) in
    omega arith

-- the first rows and the next one have at most the ticks of all
pub ticks-next-le : (rows : List Row) (i t n : ℕ) (d : Row) → i < length rows → ticks (reverse (take i rows)) ≡ t → n ≡ ticks (reverse rows) → t + ticks (get_or rows i d ∷ []) ≤ n
ticks-next-le rows i t n d inside was whole =
    let more : ticks (reverse (take (i + 1) rows)) ≤ n = ticks-take-le rows (i + 1) n whole in
    let next : ticks (reverse (take (i + 1) rows)) ≡ ticks (reverse (take i rows)) + ticks (get_or rows i d ∷ []) =
    ticks-reverse (take (i + 1) rows) ∙ (ap ticks (take_more rows i d inside) ∙ (ticks-append (take i rows) (get_or rows i d ∷ []) ∙ ap (λ (m : ℕ). m + ticks (get_or rows i d ∷ [])) (sym (ticks-reverse (take i rows))))) in
    omega arith
