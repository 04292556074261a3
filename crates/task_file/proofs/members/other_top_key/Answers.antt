use Rattle.std.proofs.Common.{string_bytes, sym, ap, ◌∙◌, option_map}
use Rattle.task_file.specs.Keys.{is_top_key}
use Rattle.task_file.proofs.MemberLemmas.{first_other-found, bytes_of_ref}
use Rattle.task_file.proofs.members.other_top_key.Goals as goal

pub returns : goal.returns
returns c = bytes_of_ref c.find_top_other.result ∙ ap (option_map string_bytes) c.find_top_other.ensures ∙ sym (first_other-found (is_top_key c.args.may_scale) c.args.table.now.entries)
