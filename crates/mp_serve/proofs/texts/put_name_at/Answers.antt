use Rattle.std.proofs.Common.{◌≡◌, ◌++◌, sym, subst, ap, ◌∙◌}
use Rattle.std.proofs.lemmas.Option.{slice_get-map}
use Rattle.std.specs.Arc.{arc_value}
use Rattle.std.specs.Prelude.{OnOk, option_map}
use Rattle.mp_serve.specs.Texts.{name_if_any}
use Rattle.mp_serve.proofs.texts.put_name_at.Goals as goal

pub returns : goal.returns
returns c =
    subst (λ t. OnOk c.put_name_if_any.result (c.put_name_if_any.new.text.items ≡ c.args.text.now.items ++ name_if_any c.args.names.now t))
    (ap (option_map arc_value) c.tx_at.ensures ∙ sym (slice_get-map arc_value c.args.txs.now c.args.place))
    c.put_name_if_any.ensures
