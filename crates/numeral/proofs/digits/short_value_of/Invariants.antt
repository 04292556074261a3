use Rattle.std.proofs.Common.{◌≡◌, ◌<◌, ◌^◌, ◌*◌, ◌+◌, length, drop}
use Rattle.std.specs.List.{list_all}
use Rattle.numeral.specs.Numeral as text
use Rattle.numeral.proofs.digits.short_value_of.Given as goal

abbrev pub invariant-loop-b : goal.invariant-loop-b
invariant-loop-b l = record {
  below : l.value < 10 ^ l.b-index;
  digits : list_all text.is_digit (drop l.b-index l.bytes) ≡ list_all text.is_digit l.bytes;
  value : l.value * 10 ^ length (drop l.b-index l.bytes) + text.value (drop l.b-index l.bytes) ≡ text.value l.bytes;
}
