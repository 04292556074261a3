-- The passes of a closed executive, and their seats.
use Rattle.std.proofs.Common.{◌≡◌, ℕ, ◌<◌, ◌≤◌, ◌+◌, ◌-◌, ◌==◌, ◌||◌, List, [], ◌∷◌, length, Bool, true, Option, Some, None, IfSome, IsSome, All, map, slice_index_or, ap, sym, ◌∙◌, subst, refl, arith, append-nil}
use Rattle.std.specs.List.{list_any}
use Rattle.std.proofs.lemmas.Bool.{eqb-true}
use Rattle.std.proofs.lemmas.List.Elements.{All-map}
use Rattle.mc_task.specs.TaskSet.{IsIn}
use Rattle.mc_model.specs.Core.{jobs_of, released_so_far}
use Rattle.mode_core.specs.Events.{running}
use Rattle.mode_core.proofs.CallerLemmas.{no_held}
use Rattle.turnstile.specs.declared.tokens.Seat.{Seat}
use Rattle.turnstile.specs.History.{made_by}
use Rattle.turnstile.specs.Seats.{IsOf, IsIn as IsInLog, number, mine, seen}
use Rattle.turnstile.proofs.Lists.{found, all_get, held_first}
use Rattle.timetable.specs.Floor.{FloorState}
use Rattle.executive.specs.contracts.state.StateKept.TheImpl.{ghosts}
use Rattle.executive.specs.declared.state.State.{State}
use Rattle.executive.specs.declared.state.Opened.{Opened}
use Rattle.executive.specs.declared.entry.Entry.{Entry}
use Rattle.executive.specs.declared.count.Count.{Count}
use Rattle.executive.specs.declared.pass.TaskPass.{TaskPass}
use Rattle.executive.specs.declared.pass.Resting.{Resting}
use Rattle.executive.specs.declared.executive.Executive.{Executive}
use Rattle.executive.specs.Histories.{IsLegal, after, calls_of, seat_number}
use Rattle.executive.specs.Counts.{idled, tally}
use Rattle.executive.specs.Stands.{opening_of, IsKept, Stands}
use Rattle.executive.specs.Seats.{floor_or_none}
use Rattle.executive.specs.Passes.{PassState, of_pass, of_resting, floor_of, IsCountedSeatOf, IsPassOf}
use Rattle.executive.specs.Closing.{seat_of, seat_of_resting, has_pass, HasPassOfEach, IsPartOf, AgreesWith, OneHistoryLeaves}
use Rattle.executive.proofs.Histories.{opening_after, own_calls, still_out, none_out, seat_of_task}
use Rattle.executive.proofs.Counting.{IsEmpty, all_counted, idles_counted}
use Rattle.executive.proofs.Adding.{opens_empty}
use Rattle.executive.proofs.Once.{total_same, all_answers}

abbrev pub OurSeat : Type 0
OurSeat = Seat State Entry Opened ghosts

-- the seats are those of the passes, in their order
abbrev pub AreSeats : List TaskPass → List OurSeat → Type 0
AreSeats ps ss = map (λ s. Some s) ss ≡ map seat_of ps

-- a property of each element of a mapped list is one of each element, mapped
unmap : {A B : Type 0} (P : B → Type 0) (f : A → B) (xs : List A) → All P (map f xs) → All (λ x. P (f x)) xs
unmap P f xs h = held_first P f xs [] (subst (All P) (sym (append-nil (map f xs))) h)

-- a property of the seat of each pass is one of each seat
to_seats : (Q : OurSeat → Type 0) (ps : List TaskPass) (ss : List OurSeat) → AreSeats ps ss → All (λ p. IfSome (seat_of p) Q) ps → All Q ss
to_seats Q ps ss same h = unmap (λ o. IfSome o Q) (λ s. Some s) ss (subst (All (λ o. IfSome o Q)) (sym same) (All-map (λ o. IfSome o Q) seat_of ps h))

-- a property of each seat is one of the seat of each pass
to_passes : (Q : OurSeat → Type 0) (ps : List TaskPass) (ss : List OurSeat) → AreSeats ps ss → All Q ss → All (λ p. IfSome (seat_of p) Q) ps
to_passes Q ps ss same h = unmap (λ o. IfSome o Q) seat_of ps (subst (All (λ o. IfSome o Q)) same (All-map (λ o. IfSome o Q) (λ s. Some s) ss h))

-- each seat is one of the executive's turnstile
pub of_seats : (e : Executive) (ps : List TaskPass) (ss : List OurSeat) → AreSeats ps ss → All (λ p. IsPassOf e p) ps → All (λ s. IsOf e.turns s) ss
of_seats e ps ss same h = to_seats (λ s. IsOf e.turns s) ps ss same (λ k d lt. first (slice_index_or ps k d).resting (h k d lt))
  where
    first : (r : Option Resting) → IfSome r (λ x. IsCountedSeatOf e x.counted_seat) → IfSome (seat_of_resting r) (λ s. IsOf e.turns s)
    first (Some r) h = h.0
    first None h = tt

-- a seat has number n exactly if its pass is of task n + 1
same_test : (n : ℕ) (r : Option Resting) (s : OurSeat) → Some s ≡ seat_of_resting r → (number s == n) ≡ ((of_resting r).task == n + 1)
same_test n None s e = absurd (cc)
same_test n (Some r) s e =
    let same : s ≡ r.counted_seat.seat = cc in
    let back : n + 1 - 1 ≡ n = omega arith in
    ap (λ (i : ℕ). i == n) (ap number same ∙ r.counted_seat.number)
    ∙ (ap (λ (i : ℕ). r.counted_seat.task.0 - 1 == i) (sym back) ∙ seat_of_task r.counted_seat.task.0 (n + 1) r.counted_seat.some (omega arith))

same_tests : (n : ℕ) (ps : List TaskPass) (ss : List OurSeat) → AreSeats ps ss → list_any (λ s. number s == n) ss ≡ has_pass ps (n + 1)
same_tests n [] [] e = refl
same_tests n [] (s ∷ ss) e = absurd (cc)
same_tests n (p ∷ ps) [] e = absurd (cc)
same_tests n (p ∷ ps) (s ∷ ss) e =
    ap (λ (b : Bool). b || list_any (λ s. number s == n) ss) (same_test n p.resting s (cc)) ∙ ap (λ (b : Bool). ((of_pass p).task == n + 1) || b) (same_tests n ps ss (cc))

-- the seats have each number
pub each_seat : (e : Executive) (ps : List TaskPass) (ss : List OurSeat) → AreSeats ps ss → HasPassOfEach ps (floor_of e).core.set → (k : ℕ) → k < length (floor_of e).core.set → list_any (λ s. number s == k) ss ≡ true
each_seat e ps ss same all k lt = same_tests k ps ss same ∙ all (k + 1) (omega arith, omega (arith, lt))

-- what holds of a pass at the end: it is in the history, its task has no granted tick, and it counts the
-- answers to its task's calls
record IsBack (o : FloorState) (log : List Entry) (p : PassState) : Type 0 where
  part : IsPartOf log p
  none_out : running (after o log).core.out p.task ≡ None
  counts : p.count ≡ tally (calls_of p.task log)

is_back : (e : Executive) (log : List Entry) → IsLegal (floor_of e) log → (r : Option Resting) → IsSome r → IfSome r (λ x. IsCountedSeatOf e x.counted_seat)
    → IfSome (seat_of_resting r) (IsInLog log) → IsBack (floor_of e) log (of_resting r)
is_back e log legal None there of h = absurd (cc)
is_back e log legal (Some r) there of h =
    let k = r.counted_seat.task.0 in
    let s = r.counted_seat.seat in
    let own : mine s ≡ calls_of k log = h.1 ∙ (ap (λ (i : ℕ). made_by seat_number i log) r.counted_seat.number ∙ own_calls (floor_of e) log k legal r.counted_seat.some) in record {
      part = record { begins = h.0; own = own };
      none_out = still_out k (floor_of e) (seen s) log h.0 legal (sym r.counted_seat.whole ∙ own)
          ∙ (ap (λ (o : Option Opened). running (after (floor_or_none o) (seen s)).core.out k) (sym of.0.1) ∙ r.none_out);
      counts = r.counted_seat.counts ∙ ap tally own;
    }

-- if each pass is back, no tick is granted
no_tick : (o : FloorState) (log : List Entry) (ps : List TaskPass) → IsKept (after o log) → HasPassOfEach ps o.core.set
    → All (λ p. IsBack o log (of_pass p)) ps → (after o log).core.out ≡ None
no_tick o log ps kept all back = none_out (after o log).core (after o log).core.out kept.sound kept.sound.good.out none
  where
    none : (k : ℕ) → IsIn (after o log).core.set k → running (after o log).core.out k ≡ None
    none k inside =
        let pass = found (λ p. (of_pass p).task == k) ps (all k (subst (λ (g : FloorState). IsIn g.core.set k) (opening_after o log) inside)) in
        let b = all_get (λ p. IsBack o log (of_pass p)) ps pass.0 pass.1 back pass.2 in
        subst (λ (i : ℕ). running (after o log).core.out i ≡ None) (eqb-true (of_pass pass.1).task k pass.3) b.none_out

-- if a pass is back, its task has as many rows as the pass counts
agrees : (o : FloorState) (log : List Entry) (p : PassState) → IsEmpty o → IsLegal o log → (after o log).core.held ≡ [] → IsBack o log p → AgreesWith (after o log) p
agrees o log p empty legal held back =
    let c = all_counted p.task o log empty legal in
    let all : p.count.releases ≡ released_so_far (after o log).core p.task = ap (λ (n : Count). n.releases) back.counts ∙ c.releases in
    let none = ap (jobs_of p.task) held in record {
      releases = omega (arith, all, none);
      ticks = ap (λ (n : Count). n.ticks) back.counts ∙ c.ticks;
      ends = ap (λ (n : Count). n.ends) back.counts ∙ c.ends;
    }

-- a closed executive meets `Closes`
pub closed : (e : Executive) (ps : List TaskPass) (ss : List OurSeat) (x : State) (log : List Entry) → length ps ≤ length (floor_of e).core.set → AreSeats ps ss → All (λ p. IsPassOf e p) ps → HasPassOfEach ps (floor_of e).core.set
    → Stands log x → opening_of x.called.floor ≡ floor_of e → All (IsInLog log) ss → OneHistoryLeaves (floor_of e) ps x.called.floor
closed e ps ss x log few same of all stands is each =
    let o = floor_of e in
    let empty = opens_empty e in
    let legal : IsLegal o log = subst (λ (f : FloorState). IsLegal f log) is stands.legal in
    let leaves : x.called.floor ≡ after o log = stands.leaves ∙ ap (λ (f : FloorState). after f log) is in
    let kept : IsKept (after o log) = subst IsKept leaves stands.kept in
    let seats = to_passes (IsInLog log) ps ss same each in
    let back : All (λ p. IsBack o log (of_pass p)) ps = λ k d lt. let p = slice_index_or ps k d in is_back e log legal p.resting p.there (of k d lt) (seats k d lt) in
    let none = no_tick o log ps kept all back in
    let held = no_held (after o log).core kept.sound.good none in
    subst (OneHistoryLeaves o ps) (sym leaves) (record {
      log = log;
      legal = legal;
      leaves = refl;
      each = λ k d lt. (back k d lt).part;
      same = ap opening_of (sym leaves) ∙ is;
      none_out = none;
      none_held = held;
      kept = kept;
      counts = λ k d lt. agrees o log (of_pass (slice_index_or ps k d)) empty legal held (back k d lt);
      idles = total_same (λ p. (of_pass p).count.idles) (λ p. (tally (calls_of (of_pass p).task log)).idles) ps (λ k d lt. ap (λ n. n.idles) (back k d lt).counts)
          ∙ (all_answers (λ p. (of_pass p).task) idled (length o.core.set) ps few (λ k low high. all k (low, high)) o log (omega arith) legal
          ∙ idles_counted o log empty legal);
    })
