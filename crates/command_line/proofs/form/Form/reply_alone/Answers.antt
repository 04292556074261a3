use Rattle.command_line.proofs.form.Form.reply_alone.Goals as goal

pub returns-in-Accept-clause-reply : goal.returns-in-Accept-clause-reply
returns-in-Accept-clause-reply g c = rw (c.in-Accept.is) (c.reply_alone-in-Accept.ensures (g.S.Shelf.state c.args.shelf.now))
