use Rattle.std.proofs.Common.{codes, refl}
use Rattle.mc_model.specs.CheckText.{not_admitted_text}
use Rattle.replies.proofs.LoadTexts.{load_texts-set}
use Rattle.replies.proofs.load_text.not_admitted_text.Goals as goal

pub returns : goal.returns
unfolding not_admitted_text
returns c set belong =
    rw (c.into_bytes.ensures.value, c.in_ok-text.ensures.ok, c.in_ok-loads.ensures, load_texts-set (codes " ") set c.args.loads.now belong) refl
