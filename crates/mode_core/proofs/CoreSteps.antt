-- The fields of a core after the events of a tick; those after a release are in Releasing.
use Rattle.std.proofs.Common.{◌≡◌, ℕ, ◌≤◌, Bool, List, [], ◌∷◌, Option, option_map, Some, None, length, reverse, vec_capacity, refl, sym, ap, ◌∙◌, subst, arith}
use Rattle.mc_task.specs.declared.task.JobId.{JobId}
use Rattle.mc_model.specs.declared.row.Row.{Row}
use Rattle.mc_model.specs.declared.row.Row.TheVariants.{Tick}
use Rattle.mode_core.specs.declared.scheduler.Core.TheInside.{Inside}
use Rattle.arrivals.specs.Arrived.{arrived}
use Rattle.mode_core.specs.Written.{Written}
use Rattle.mode_core.specs.Entries.{entry}
use Rattle.mode_core.specs.declared.pending.Pending.{Pending}
use Rattle.mode_core.specs.Events.{grant_refusal, chosen_now}
use Rattle.mode_core.specs.Shape.{state_of, IsSoundUpTo, IsCore}
use Rattle.mode_core.proofs.Options.{no_map}
use Rattle.mode_core.proofs.Sound.{giving, ended, sound_grant, sound_end, may_grant, IsTicking, notes_ended}
use Rattle.mode_core.specs.Noted.{notes_of}
use Rattle.mc_model.specs.Pending.{KeptRelease}
use Rattle.mc_model.specs.Legal.{Legal}
use Rattle.mc_model.specs.Core.{State, add_held, outcome_of, settle}

-- a state by its parts
abbrev made_of : Written → Option JobId → List JobId → State
made_of w o js = record { set = w.set; rule = w.rule; places = w.places; rows = w.rows; out = o; held = js }

-- the state of a core whose fields are these
pub same_state : {K : Type 0} (b : Inside K) (w : Written) (o : Option JobId) (js : List JobId) → b.log ≡ w → b.out ≡ o → reverse b.held.items ≡ js → state_of b ≡ made_of w o js
same_state b w o js p q r = rw (p, q, r) refl

-- the fields are a core if the state is sound, its releases are noted, and there is capacity for held releases
pub core_from : {K : Type 0} {n : ℕ} (b : Inside K) (t : State) → state_of b ≡ t → IsSoundUpTo n t → b.arrivals ≡ arrived t.set (notes_of t) → length t.set ≤ vec_capacity b.held → IsCore n b
core_from {n = n} b t e sound notes room = record {
  sound = subst (IsSoundUpTo n) (sym e) sound;
  notes_are = subst (λ (x : State). b.arrivals ≡ arrived x.set (notes_of x)) (sym e) notes;
  held_room = subst (λ (x : State). length x.set ≤ vec_capacity b.held) (sym e) room;
}

-- the fields are a core after a tick is granted
pub core_give : {K : Type 0} {n : ℕ} (a b : Inside K) (k : ℕ) → IsCore n a → grant_refusal (state_of a) k ≡ None → b.log ≡ a.log → b.out ≡ chosen_now (state_of a) → b.held.items ≡ a.held.items → vec_capacity b.held ≡ vec_capacity a.held → b.arrivals ≡ a.arrivals → IsCore n b
core_give a b k core r eb eo eh ec en =
    let s : State = state_of a in
    let e = same_state b a.log (chosen_now s) (reverse a.held.items) eb eo (ap reverse eh) in
    core_from b (giving s) e (sound_grant s core.sound (may_grant s k core.sound r)) (en ∙ core.notes_are) (omega (arith, core.held_room, ec))

-- the fields are a core after a tick has its outcome
pub core_end : {K : Type 0} {n : ℕ} (a b : Inside K) (done : Bool) → IsCore n a → b.log ≡ record a.log { rows = settle (state_of a) done } → b.out ≡ None → b.held.items ≡ [] → vec_capacity b.held ≡ vec_capacity a.held → b.arrivals ≡ a.arrivals → IsCore n b
core_end a b done core eb eo eh ec en =
    let s : State = state_of a in
    let e = same_state b (record a.log { rows = settle s done }) None [] eb eo (ap reverse eh) in
    core_from b (ended s done) e (sound_end s done core.sound)
    (en ∙ (core.notes_are ∙ ap (arrived s.set) (sym (notes_ended s done core.sound)))) (omega (arith, core.held_room, ec))

-- the job of the entry that runs first
pub first_job : (h : List Row) (o : Option KeptRelease) (x : Pending) → Some x ≡ option_map (entry h) o → Some x.job ≡ option_map (λ (i : KeptRelease). i.job) o
first_job h None x e = cc
first_job h (Some i) x e = let d : x ≡ entry h i = cc in ap (λ (p : Pending). Some p.job) d

-- if no entry runs first, no job runs first
pub no_job_first : (h : List Row) (o : Option KeptRelease) → None ≡ option_map (entry h) o → None ≡ option_map (λ (i : KeptRelease). i.job) o
no_job_first h o e = rw (no_map (entry h) o (sym e)) refl

-- the rows once the tick's row and the held releases are written
pub end_log : {K : Type 0} (a : Inside K) (j : JobId) (done : Bool) (w v : Written) (hs : List JobId) → IsTicking (state_of a) j → w ≡ record a.log { rows = Tick j (outcome_of a.log.set a.log.rule a.log.rows j done) ∷ a.log.rows } → hs ≡ a.held.items →
    v ≡ record w { rows = add_held w.set w.rule (reverse hs) w.rows } → v ≡ record a.log { rows = settle (state_of a) done }
end_log a j done w v hs t ew es ev = rw (ev, ew, es, t.settle_is done) refl

-- the rows with the tick's row and the held releases are legal
pub held_legal : {K : Type 0} {n : ℕ} (a : Inside K) (j : JobId) (done : Bool) (w : Written) (hs : List JobId) → IsCore n a → IsTicking (state_of a) j → w ≡ record a.log { rows = Tick j (outcome_of a.log.set a.log.rule a.log.rows j done) ∷ a.log.rows } → hs ≡ a.held.items → Legal w.set w.rule (add_held w.set w.rule (reverse hs) w.rows)
held_legal a j done w hs core t ew es =
    subst (λ (v : Written). Legal v.set v.rule v.rows) (sym (end_log a j done w (record w { rows = add_held w.set w.rule (reverse hs) w.rows }) hs t ew es refl)) (core.sound.good.settled done)

-- a core with the settled rows, no granted tick and no held release has the state after the outcome
pub end_state : {K : Type 0} (a b : Inside K) (done : Bool) → b.log ≡ record a.log { rows = settle (state_of a) done } → b.out ≡ None → b.held.items ≡ [] → state_of b ≡ ended (state_of a) done
end_state a b done eb eo eh = same_state b (record a.log { rows = settle (state_of a) done }) None [] eb eo (ap reverse eh)
