use Rattle.command_line.proofs.form.Form.reply.Goals as goal

pub returns-in-Soak : goal.returns-in-Soak
returns-in-Soak g c = rw (c.in-Soak.is) (c.reply-in-Soak.ensures (g.S.Shelf.state c.args.shelf.now))

pub returns-in-Accept : goal.returns-in-Accept
returns-in-Accept g c = rw (c.in-Accept.is) (c.reply-in-Accept.ensures (g.S.Shelf.state c.args.shelf.now))
