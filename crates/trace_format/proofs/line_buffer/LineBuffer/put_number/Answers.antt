use Rattle.std.proofs.Common.{rules, ◌≡◌, ◌<◌, ◌≤◌, ◌^◌, length, drop, decimal, ap, arith}
use Rattle.std.proofs.lemmas.List.{length-append, length-drop}
use Rattle.trace_format.proofs.TenDigits.{ten_digits}
use Rattle.trace_format.proofs.line_buffer.LineBuffer.put_number.Goals as goal

pub write_digits-self-inside-requires : goal.write_digits-self-inside-requires
write_digits-self-inside-requires c =
    let small : c.from.result < 2 ^ 32 = search rules in
    let digits : length (decimal c.from.result) ≤ 10 = ten_digits c.from.result small in
    let text : length (drop c.self.inside.start c.self.inside.bytes) ≡ length c.args.self.now = ap length c.self.view_is in
    let long = length-drop c.self.inside.start c.self.inside.bytes in
    (omega (arith, digits, text, long, c.requires, c.self.invariant, c.self.told), omega (arith, c.self.invariant, c.self.told))

pub returns-clause-short : goal.returns-clause-short
returns-clause-short c =
    let small : c.from.result < 2 ^ 32 = search rules in
    let digits : length (decimal c.from.result) ≤ 10 = ten_digits c.from.result small in
    let text : length (drop c.self.inside.start c.self.inside.bytes) ≡ length c.args.self.now = ap length c.self.view_is in
    let both = length-append (decimal c.from.result) (drop c.self.inside.start c.self.inside.bytes) in
    let written = ap length c.write_digits-self-inside.ensures.written in
    omega (arith, digits, text, both, written)
