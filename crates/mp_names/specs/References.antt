-- References, as words write them.
use Rattle.std.specs.Prelude.{ℕ, ◌-◌, ◌^◌, List, replicate, slice_get, Option, None, Some, option_and_then, option_map}
use Rattle.mp_tx.specs.declared.reference.OutRef.{OutRef}
use Rattle.mp_tx.specs.Spelling.{id_of}
use Rattle.mp_names.specs.declared.payment.Payment.{Payment}
use Rattle.mp_names.specs.declared.names.Binding.{Binding}
use Rattle.mp_names.specs.declared.names.Binding.TheVariants.{Opening, Made}
use Rattle.mp_names.specs.Numbers.{number_in}
use Rattle.mp_names.specs.Splitting.{split_once}
use Rattle.mp_names.specs.DeclaredTx.{DeclaredTx}
use Rattle.mp_names.specs.Names.{Names, binding_named, tx_named}

-- opening output K, from 0
abbrev pub opening_ref : ℕ → OutRef
opening_ref k = record { id = replicate 32 0; index = k }

-- an index below 2^16
abbrev pub place_of : List ℕ → Option ℕ
place_of word = number_in 0 (2 ^ 16 - 1) word

-- an output of the opening ledger state
abbrev pub opening_of : Binding → Option (OutRef × Payment)
opening_of (Opening r p) = Some (r, p)
opening_of (Made t) = None

-- output K of a transaction, whether it has one or not
abbrev pub output_ref : Option DeclaredTx → Option ℕ → Option OutRef
output_ref (Some t) (Some k) = Some (record { id = id_of t.tx; index = k })
output_ref (Some t) None = None
output_ref None k = None

-- NAME of an opening output, or TX.K; 46 is the dot
abbrev pub ref_by : Names → List ℕ → Option (List ℕ) → Option OutRef
ref_by names word None = option_map (λ o. o.0) (option_and_then opening_of (binding_named word names))
ref_by names word (Some place) = output_ref (tx_named word names) (place_of place)

unfoldable pub ref_of : Names → List ℕ → Option OutRef
ref_of names word = ref_by names (split_once 46 word).0 (split_once 46 word).1

-- the payment at an index of a transaction's outputs, if there is one
abbrev pub payment_at : Option DeclaredTx → Option ℕ → Option Payment
payment_at (Some t) (Some k) = slice_get t.payments k
payment_at (Some t) None = None
payment_at None k = None

-- the payment of the named output, if that exists
abbrev pub paid_by : Names → List ℕ → Option (List ℕ) → Option Payment
paid_by names word None = option_map (λ o. o.1) (option_and_then opening_of (binding_named word names))
paid_by names word (Some place) = payment_at (tx_named word names) (place_of place)

unfoldable pub paid_at : Names → List ℕ → Option Payment
paid_at names word = paid_by names (split_once 46 word).0 (split_once 46 word).1
