use Rattle.std.proofs.Common.{◌≡◌, [], length}
use Rattle.mp_text.specs.Words.{words_of}
use Rattle.mp_lines.specs.Ledgers.{put_outputs}
use Rattle.mp_lines.proofs.ledgers.read_outputs.Given as goal

-- the remaining words make of those so far what all make of none
abbrev pub invariant-loop-word : goal.invariant-loop-word
invariant-loop-word l = put_outputs l.names l.outputs (words_of l.rest) ≡ put_outputs l.names [] (words_of l.words)

abbrev pub decreases-loop-word : goal.decreases-loop-word
decreases-loop-word l = length l.rest
