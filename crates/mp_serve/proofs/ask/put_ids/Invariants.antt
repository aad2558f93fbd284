use Rattle.std.proofs.Common.{◌≡◌, length, map}
use Rattle.mp_text.specs.Words.{words_of}
use Rattle.mp_serve.specs.Ask.{put_ids}
use Rattle.mp_serve.specs.Inside.Ask.{to_tx_word}
use Rattle.mp_serve.proofs.ask.put_ids.Given as goal

-- adding the rest to the words so far gives what adding all to the first ones gives
abbrev pub invariant-loop-word : goal.invariant-loop-word
invariant-loop-word l = put_ids (map to_tx_word l.txs.items) (words_of l.rest) ≡ put_ids (map to_tx_word l.fn.txs.items) (words_of l.words)

abbrev pub decreases-loop-word : goal.decreases-loop-word
decreases-loop-word l = length l.rest
