-- Steps whose parts were taken apart.
use Rattle.std.specs.Prelude.{◌≡◌, ℕ, List}
use Rattle.mp_tx.specs.Ledger.{LedgerState}
use Rattle.mp_utxo.specs.Overlay.{Overlay}
use Rattle.mp_seqpool.specs.declared.parting.Parted.{Parted}
use Rattle.mp_seqpool.specs.Keep.{transactions}
use Rattle.mp_seqpool.specs.Parted.{IsParted}
use Rattle.mp_seqpool.specs.declared.command.Reply.{Reply}
use Rattle.mp_seqpool.specs.declared.command.Reply.TheVariants.{Synced}
use Rattle.mp_seqpool.specs.Command.{Command, Sync}
use Rattle.mp_seqpool.specs.Pool.{Pool, Holding}
use Rattle.mp_seqpool.specs.Prepared.{Prepared, Keep, Adopt, IsPrepared}

-- a step with this reply was prepared that keeps what the overlay has applied
pub record IsKeep (h : Holding) (overlay : Overlay) (reply : Reply) : Type 0 where
  pub command : Command
  pub kept : List ℕ
  pub prepared : IsPrepared h (record { command = command; reply = reply; effect = Keep overlay kept })

-- a step with this reply was prepared that takes out what has these tickets and adopts the ledger state
pub record IsAdoption (h : Holding) (ledger : LedgerState) (gone : List ℕ) (reply : Reply) : Type 0 where
  pub command : Command
  pub prepared : IsPrepared h (record { command = command; reply = reply; effect = Adopt ledger gone })

-- the step of a sync that takes out the lost transactions, on which no others depend, if all others are untouched
pub record AdoptsParted (p : Pool) (ledger : LedgerState) (q : Prepared) : Type 0 where
  pub parted : Parted
  pub are : IsParted p.ledger (transactions p.items) ledger p.items parted
  pub command : q.command ≡ Sync ledger
  pub reply : q.reply ≡ Synced parted.kept parted.dropped
  pub effect : q.effect ≡ Adopt ledger parted.dropped
