-- The cases of specs/Bench.antt, each computed. Assumes nothing.
use mathlib.Core.Path.{refl}
use Rattle.outcome.specs.Lists.{same}
use Rattle.decimal.specs.Decimal.{decimal, last_digits, leading_digits, value_from, leading_number, after_number}
use Rattle.profile.specs.Rules.{fields_of, obeys, valid}
use Rattle.profile.specs.Line.{field_bytes, written, line_of, field_number, after_field, numbers_in, scanned, read_line}
use Rattle.profile.specs.Bench.{LineBench}

pub line_bench : LineBench
unfolding decimal last_digits leading_digits value_from leading_number after_number fields_of obeys valid field_bytes written line_of field_number after_field numbers_in scanned same read_line
line_bench = refl
