-- What a call does to a pass whose jobs end by their needs.
use Rattle.std.proofs.Common.{◌≡◌, ℕ, ◌+◌, ◌==◌, List, Bool, Option, Some, None, Ok, IfSome, ap, sym, ◌∙◌, subst}
use Rattle.mc_task.specs.declared.task.Task.{Task}
use Rattle.mc_task.specs.TaskSet.{task_at}
use Rattle.mc_model.specs.declared.row.How.{How}
use Rattle.mode_core.specs.declared.answers.Granted.{Granted}
use Rattle.executive.specs.declared.entry.Call.{Call}
use Rattle.executive.specs.declared.entry.Call.TheVariants.{Take, Outcome, Release, Look, Idle}
use Rattle.executive.specs.declared.entry.Answer.{Answer}
use Rattle.executive.specs.declared.entry.Answer.TheVariants.{Taken, Settled}
use Rattle.executive.specs.declared.pass.TaskPass.{TaskPass}
use Rattle.executive.specs.declared.executive.Executive.{Executive}
use Rattle.executive.specs.Histories.{entry}
use Rattle.executive.specs.Passes.{PassState, Calls, IsPassOf, of_pass, floor_of}
use Rattle.mc_model.specs.LiveTrace.{live_need}
use Rattle.task_threads.specs.LiveCalls.{granted_last, IsByNeed, AreByNeed}
use Rattle.task_threads.specs.LivePasses.{EndsByNeed, IsLivePass}
use Rattle.task_threads.proofs.LiveLaw.{by_need_more, granted_more}

pub call_live : (set : List Task) (k : ℕ) (c : Call) (a : Answer) (p q : PassState) → EndsByNeed set k p → Calls c a p q → IsByNeed (live_need (task_at set k)) (granted_last None p.lists.mine) c → EndsByNeed set k q
call_live set k c a p q h calls by =
    subst (AreByNeed (live_need (task_at set k)) None) (sym calls.adds.makes) (by_need_more (live_need (task_at set k)) None p.lists.mine (entry p.task c a) h by)

-- a call that ends no tick leaves a pass whose jobs end by their needs
pub pass_live : (e : Executive) (k : ℕ) (c : Call) (a : Answer) (p q : TaskPass) → IsPassOf e q → Calls c a (of_pass p) (of_pass q) → ((last : Option Granted) → IsByNeed (live_need (task_at (floor_of e).core.set k)) last c) → IsLivePass e k p → IsLivePass e k q
pass_live e k c a p q of calls by h = ((of, calls.task ∙ h.0.1), call_live (floor_of e).core.set k c a (of_pass p) (of_pass q) h.1 calls (by _))

-- a release, a look and an idle tick end no job
pub released_live : (e : Executive) (k : ℕ) (a : Answer) (p q : TaskPass) → IsPassOf e q → Calls Release a (of_pass p) (of_pass q) → IsLivePass e k p → IsLivePass e k q
released_live e k a p q of calls h = pass_live e k Release a p q of calls (λ last. tt) h

pub looked_live : (e : Executive) (k : ℕ) (a : Answer) (p q : TaskPass) → IsPassOf e q → Calls Look a (of_pass p) (of_pass q) → IsLivePass e k p → IsLivePass e k q
looked_live e k a p q of calls h = pass_live e k Look a p q of calls (λ last. tt) h

pub idled_live : (e : Executive) (k : ℕ) (a : Answer) (p q : TaskPass) → IsPassOf e q → Calls Idle a (of_pass p) (of_pass q) → IsLivePass e k p → IsLivePass e k q
idled_live e k a p q of calls h = pass_live e k Idle a p q of calls (λ last. tt) h

-- a tick that was taken and ended by its job's need leaves a pass whose jobs end by their needs
pub ticked_live : (set : List Task) (k : ℕ) (g : Granted) (done : Bool) (how : How) (p q r : PassState) → EndsByNeed set k p → Calls Take (Taken (Ok g)) p q → Calls (Outcome done) (Settled (Ok how)) q r
    → done ≡ (g.before + 1 == live_need (task_at set k) g.job.count) → EndsByNeed set k r
ticked_live set k g done how p q r h takes ends by =
    let last : granted_last None q.lists.mine ≡ Some g = ap (granted_last None) takes.adds.makes ∙ granted_more None p.lists.mine (entry p.task Take (Taken (Ok g))) in
    call_live set k (Outcome done) (Settled (Ok how)) q r (call_live set k Take (Taken (Ok g)) p q h takes tt) ends
    (subst (λ (l : Option Granted). IfSome l (λ x. done ≡ (x.before + 1 == live_need (task_at set k) x.job.count))) (sym last) by)
