use Rattle.std.proofs.Common.{◌≡◌, length}
use Rattle.mp_text.specs.Words.{words_of}
use Rattle.mp_serve.specs.Ask.{put_names}
use Rattle.mp_serve.proofs.ask.put_names.Given as goal

-- adding the rest to the names so far gives what adding all to the first ones gives
abbrev pub invariant-loop-word : goal.invariant-loop-word
invariant-loop-word l = put_names l.names.items (words_of l.rest) ≡ put_names l.fn.names.items (words_of l.words)

abbrev pub decreases-loop-word : goal.decreases-loop-word
decreases-loop-word l = length l.rest
