-- Words for transactions: a declared name, or `#ID` for a transaction that the pool holds.
use Rattle.std.specs.Prelude.{ℕ, List, [], ◌∷◌, ◌++◌, Option, None, Some, option_map, option_and_then}
use Rattle.std.specs.Option.{option_or}
use Rattle.mp_tx.specs.Transaction.{Transaction}
use Rattle.mp_tickets.specs.Tickets.{item_at}
use Rattle.mp_seqpool.specs.SlowPool.{ticket_of}
use Rattle.mp_names.specs.Names.{Names, tx_named}
use Rattle.mp_names.specs.Ids.{id_in}
use Rattle.mp_session.specs.declared.session.Stage.{Stage}
use Rattle.mp_session.specs.declared.session.Stage.TheVariants.{Before, Open}
use Rattle.mp_serve.specs.ServedPool.{ServedPool}

pub data TxWord : Type 0 where
  -- this transaction has the name
  Named : Transaction → TxWord
  -- the transaction with this id that the pool holds
  Pooled : List ℕ → TxWord

abbrev pub tx_word_of : Names → List ℕ → Option TxWord
tx_word_of names word = option_or (option_map Pooled (id_in word)) (option_map (λ t. Named t.tx) (tx_named word names))

-- the transaction with this id that the pool holds
abbrev pub tx_held : Stage ServedPool → List ℕ → Option Transaction
tx_held (Before b) id = None
tx_held (Open p) id = option_and_then (item_at p.pool.items) (ticket_of id p.pool.items)

-- the transaction that the word means
abbrev pub tx_meant : Stage ServedPool → TxWord → Option Transaction
tx_meant stage (Named t) = Some t
tx_meant stage (Pooled id) = tx_held stage id

-- these transactions, and then those that the words mean
abbrev pub put_meant : Stage ServedPool → List Transaction → List TxWord → Option (List Transaction)
put_meant stage txs [] = Some txs
put_meant stage txs (word ∷ words) = option_and_then (λ t. put_meant stage (txs ++ t ∷ []) words) (tx_meant stage word)
