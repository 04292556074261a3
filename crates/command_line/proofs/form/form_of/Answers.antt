use Rattle.std.proofs.Common.{rules}
use Rattle.command_line.proofs.WordLists.{all_of, none_of_few, none_of_many}
use Rattle.command_line.proofs.form.form_of.Goals.{in_default-via-then-words-lt2, in_default-via-else-words-lt2+then-words-lt3+in_default, in_default-via-else-words-lt2+else-words-lt3+then-words-lt4+in_default, in_default-via-else-words-lt2+else-words-lt3+else-words-lt4+then-words-lt5+in_default, in_default-via-else-words-lt2+else-words-lt3+else-words-lt4+else-words-lt5+then-words-lt6+in_default, in_default-via-else-words-lt2+else-words-lt3+else-words-lt4+else-words-lt5+else-words-lt6}
use Rattle.command_line.proofs.form.form_of.Goals as goal

pub returns-in_default-clause-form : goal.returns-in_default-clause-form
returns-in_default-clause-form c =
    let words = c.args.words.now in
    elim c.in_default.branch [
      | in_default-via-then-words-lt2 w ↦ none_of_few words (search rules)
      | in_default-via-else-words-lt2+then-words-lt3+in_default w ↦ rw (all_of words 2 (search rules) (search rules)) (search rules)
      | in_default-via-else-words-lt2+else-words-lt3+then-words-lt4+in_default w ↦ rw (all_of words 3 (search rules) (search rules)) (search rules)
      | in_default-via-else-words-lt2+else-words-lt3+else-words-lt4+then-words-lt5+in_default w ↦ rw (all_of words 4 (search rules) (search rules)) (search rules)
      | in_default-via-else-words-lt2+else-words-lt3+else-words-lt4+else-words-lt5+then-words-lt6+in_default w ↦ rw (all_of words 5 (search rules) (search rules)) (search rules)
      | in_default-via-else-words-lt2+else-words-lt3+else-words-lt4+else-words-lt5+else-words-lt6 w ↦ none_of_many words (search rules)
    ]
