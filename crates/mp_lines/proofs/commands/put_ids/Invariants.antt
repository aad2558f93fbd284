use Rattle.std.proofs.Common.{◌≡◌, length}
use Rattle.mp_text.specs.Words.{words_of}
use Rattle.mp_lines.specs.Lines.{put_ids}
use Rattle.mp_lines.proofs.commands.put_ids.Given as goal

-- the remaining words make of those so far what all make of the first ones
abbrev pub invariant-loop-word : goal.invariant-loop-word
invariant-loop-word l = put_ids l.names l.ids.items (words_of l.rest) ≡ put_ids l.names l.fn.ids.items (words_of l.words)

abbrev pub decreases-loop-word : goal.decreases-loop-word
decreases-loop-word l = length l.rest
