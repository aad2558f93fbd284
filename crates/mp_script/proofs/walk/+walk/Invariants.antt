use Rattle.std.proofs.Common.{◌≡◌, ◌-◌, ◌+◌, ◌*◌}
use Rattle.mp_bytes.specs.Reading.{rest_of}
use Rattle.mp_script.specs.DataReading.{items_read, datum_read}
use Rattle.mp_script.proofs.walk.+walk.Given as goal

abbrev pub decreases-datum_end : goal.decreases-datum_end
decreases-datum_end l = 3 * l.most_depth

abbrev pub decreases-items_end : goal.decreases-items_end
decreases-items_end l = 3 * l.most_depth + 1

abbrev pub decreases-list_end : goal.decreases-list_end
decreases-list_end l = 3 * l.most_depth + 2

-- the remaining data have the end of all data
abbrev pub invariant-items_end-loop : goal.invariant-items_end-loop
invariant-items_end-loop l =
    rest_of (items_read (datum_read l.most_depth) (l.count - l.counter) l.rest) ≡ rest_of (items_read (datum_read l.most_depth) l.count l.bytes)
