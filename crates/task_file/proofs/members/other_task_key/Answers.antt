use Rattle.std.proofs.Common.{string_bytes, sym, ap, ◌∙◌, option_map}
use Rattle.task_file.specs.Keys.{is_task_key}
use Rattle.task_file.proofs.MemberLemmas.{first_other-found, bytes_of_ref}
use Rattle.task_file.proofs.members.other_task_key.Goals as goal

pub returns : goal.returns
returns c = bytes_of_ref c.find_task_other.result ∙ ap (option_map string_bytes) c.find_task_other.ensures ∙ sym (first_other-found is_task_key c.args.table.now.entries)
