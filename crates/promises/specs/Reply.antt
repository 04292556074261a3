-- The reply to the words of a command line.
use Rattle.std.specs.Prelude.{◌≡◌, Option, None}
use Rattle.mc_world.specs.Shelf.{ShelfState}
use Rattle.replies.specs.Reply.{Reply}
use Rattle.command.specs.Outcome as served
use Rattle.command_line.specs.declared.form.Form.{Form}
use Rattle.command_line.specs.Form.{command}

-- the reply is one to the command that the words name, or the usage line; its status is 2 only where they
-- name none
pub record IsReply (form : Option Form) (before after : ShelfState) (reply : Reply) : Type 0 where
  pub is : served.IsReply 1 (command form) before after reply
  pub usage : reply.status ≡ 2 → form ≡ None
