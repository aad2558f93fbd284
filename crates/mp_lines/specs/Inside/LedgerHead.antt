-- How contracts see a head.
use Rattle.mp_text.specs.Words.{words_of}
use Rattle.mp_lines.specs.declared.ledgers.LedgerHead as code
use Rattle.mp_lines.specs.Ledgers.{LedgerHead}

abbrev pub to_head : code.LedgerHead → LedgerHead
to_head h = record { tick = h.tick; block_bytes = h.block_bytes; rest = words_of h.rest.now }
