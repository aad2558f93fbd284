use Rattle.std.proofs.Common.{◌≡◌, length}
use Rattle.mp_text.specs.Words.{words_of}
use Rattle.mp_lines.specs.Draft.{draft_of}
use Rattle.mp_lines.proofs.draft.fill.Given as goal

-- the remaining words make of the draft what all make of the first
abbrev pub invariant-loop-word : goal.invariant-loop-word
invariant-loop-word l = draft_of l.names l.draft (words_of l.rest) ≡ draft_of l.names l.fn.draft (words_of l.words)

abbrev pub decreases-loop-word : goal.decreases-loop-word
decreases-loop-word l = length l.rest
