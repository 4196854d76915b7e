-- `profile::scan::scan` meets its contract: field by field, each after the one before it. Assumes nothing.
use Rattle.profile.proofs.LineLaws.{scanned_parts}
use Rattle.profile.proofs.scan.scan.Goals as goal

pub returns : goal.returns
returns c =
    scanned_parts
    c.field_at-serial.ensures
    c.field_at-volts.ensures
    c.field_at-hertz.ensures
    c.trip_at-over_voltage.ensures
    c.trip_at-under_voltage.ensures
    c.trip_at-over_frequency.ensures
    c.trip_at-under_frequency.ensures
    c.rate_at-rate_of_change.ensures
