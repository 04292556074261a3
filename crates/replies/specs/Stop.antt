-- What a step of a command returns: a value, or why the command stops.
use Rattle.std.specs.Prelude.{◌≡◌, ◌≢◌, Result, Ok, Err}
use Rattle.replies.specs.Reply.{Reply}
use Rattle.replies.specs.Refusal.{Refusal, refuse}
use Rattle.replies.specs.declared.stop.Stop.{Stop}
use Rattle.replies.specs.declared.stop.Stop.TheVariants.{Refused, Memory}

-- this holds of the reply that ends the command, whose status is not 0; or memory ran out
abbrev pub StopsBy : (Reply → Type 0) → Stop → Type 0
StopsBy Is (Refused reply) = Is reply × (reply.status ≢ 0)
StopsBy Is Memory = Unit {0}

-- the reply that ends the command reports this refusal, or memory ran out
abbrev pub Refuses : Refusal → Stop → Type 0
Refuses refusal stop = StopsBy (λ reply. reply ≡ refuse refusal) stop

-- where the definition reads a value, this holds of it and of the code's value; where it refuses, the code's
-- reply reports that refusal; or memory ran out
abbrev pub ReadsOrRefuses : {A B : Type 0} → (A → B → Type 0) → Result A Refusal → Result B Stop → Type 0
ReadsOrRefuses Is (Ok read) (Ok given) = Is read given
ReadsOrRefuses Is (Err refusal) (Ok given) = ⊥
ReadsOrRefuses Is (Err refusal) (Err stop) = Refuses refusal stop
ReadsOrRefuses Is (Ok read) (Err stop) = stop ≡ Memory

-- this holds of the reply, whether it comes as a value or as a refusal; or memory ran out
abbrev pub Replies : (Reply → Type 0) → Result Reply Stop → Type 0
Replies Is (Ok reply) = Is reply
Replies Is (Err stop) = StopsBy Is stop
