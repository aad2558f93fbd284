use Rattle.std.proofs.Common.{◌≡◌, [], map}
use Rattle.std.specs.Arc.{arc_value}
use Rattle.std.specs.Vec.Iter.{into_iter_items}
use Rattle.mp_serve.specs.TxWord.{put_meant}
use Rattle.mp_serve.specs.Inside.Ask.{to_tx_word}
use Rattle.mp_serve.proofs.tx_word.txs_meant.Given as goal

-- adding what the other words mean to the transactions so far gives what all words mean
abbrev pub invariant-loop-word : goal.invariant-loop-word
invariant-loop-word l =
    put_meant l.stage (map arc_value l.txs.items) (map to_tx_word (into_iter_items l.word-iterator)) ≡ put_meant l.stage [] (map to_tx_word l.fn.words.items)
