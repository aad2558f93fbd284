use Rattle.std.proofs.Common.{◌≡◌, ◌==◌, []}
use Rattle.std.specs.List.{slice_split}
use Rattle.std.specs.Prelude.{option_copied}
use Rattle.mp_names.specs.Bundles.{put_entries}
use Rattle.mp_names.proofs.Parts.{parts_left, length_left}
use Rattle.mp_names.proofs.bundles.entries_of.Given as goal

-- adding the parts that are left to these entries gives what all parts give
abbrev pub invariant-loop-rest : goal.invariant-loop-rest
invariant-loop-rest l =
    put_entries l.names l.entries.items (parts_left 44 (option_copied l.rest)) ≡ put_entries l.names [] (slice_split (λ b. b == 44) l.word)

abbrev pub decreases-loop-rest : goal.decreases-loop-rest
decreases-loop-rest l = length_left (option_copied l.rest)
