-- How contracts see an `Ask` of the code.
use Rattle.std.specs.Prelude.{map}
use Rattle.std.specs.Arc.{arc_value}
use Rattle.mp_lines.specs.Inside.Line.{to_line}
use Rattle.mp_serve.specs.declared.ask.Ask as code
use Rattle.mp_serve.specs.declared.ask.Ask.TheVariants as asks
use Rattle.mp_serve.specs.declared.block.NewBlock as blocks
use Rattle.mp_serve.specs.declared.tx_word.TxWord as words
use Rattle.mp_serve.specs.declared.tx_word.TxWord.TheVariants as tx_words
use Rattle.mp_serve.specs.TxWord.{TxWord, Named, Pooled}
use Rattle.mp_serve.specs.Ask.{Ask, NewBlock, Does, Reads, Submits, SubmitsBytes, Shows, Checks, Counts, Holds, Extends, Stages, StagesHeld, StagesOutput, Unstages, Syncs, Returns, Forgets, ReportsById, Resets}

abbrev pub to_tx_word : words.TxWord → TxWord
to_tx_word (tx_words.Named tx) = Named (arc_value tx)
to_tx_word (tx_words.Pooled id) = Pooled id

abbrev pub to_block : blocks.NewBlock → NewBlock
to_block b = record { tick = b.tick; block_bytes = b.block_bytes; txs = map to_tx_word b.txs.items }

abbrev pub to_ask : code.Ask → Ask
to_ask (asks.Does line) = Does (to_line line)
to_ask (asks.Reads name bytes) = Reads name bytes.items
to_ask (asks.Submits name tx) = Submits name (arc_value tx)
to_ask (asks.SubmitsBytes bytes) = SubmitsBytes bytes.items
to_ask (asks.Shows word) = Shows (to_tx_word word)
to_ask (asks.Checks word) = Checks (to_tx_word word)
to_ask asks.Counts = Counts
to_ask (asks.Holds reference output) = Holds reference output
to_ask (asks.Extends block) = Extends (to_block block)
to_ask (asks.Stages bytes) = Stages bytes.items
to_ask (asks.StagesHeld words) = StagesHeld (map to_tx_word words.items)
to_ask (asks.StagesOutput reference output) = StagesOutput reference output
to_ask asks.Unstages = Unstages
to_ask (asks.Syncs tick block_bytes) = Syncs tick block_bytes
to_ask (asks.Returns count) = Returns count
to_ask (asks.Forgets names) = Forgets names.items
to_ask (asks.ReportsById by_id) = ReportsById by_id
to_ask asks.Resets = Resets
