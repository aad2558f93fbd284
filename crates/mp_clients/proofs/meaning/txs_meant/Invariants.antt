use Rattle.std.proofs.Common.{◌≡◌, [], map}
use Rattle.std.specs.Arc.{arc_value}
use Rattle.std.specs.Vec.Iter.{into_iter_items}
use Rattle.mp_serve.specs.TxWord.{put_meant}
use Rattle.mp_serve.specs.Inside.Ask.{to_tx_word}
use Rattle.mp_clients.specs.Alone.{stage_of}
use Rattle.mp_clients.proofs.meaning.txs_meant.Given as goal

-- adding what the other words mean to the transactions so far gives what all words mean
abbrev pub invariant-loop-word : goal.invariant-loop-word
invariant-loop-word g l =
    let stage = stage_of g.N.PoolName.accepts l.client in
    put_meant stage (map arc_value l.txs.items) (map to_tx_word (into_iter_items l.word-iterator)) ≡ put_meant stage [] (map to_tx_word l.fn.words.items)
