-- Words for transactions.
use Rattle.std.proofs.Common.{◌≡◌, List, map}
use Rattle.std.specs.List.{list_all}
use Rattle.std.proofs.lemmas.List.Folds.{list_all-map}
use Rattle.mp_serve.specs.declared.tx_word.TxWord as code
use Rattle.mp_serve.specs.Inside.Ask.{to_tx_word}
use Rattle.mp_clients.specs.Asking.{is_named}

pub all_named : (words : List code.TxWord) → list_all is_named (map to_tx_word words) ≡ list_all (λ w. is_named (to_tx_word w)) words
all_named words = list_all-map is_named to_tx_word words
