use Rattle.std.proofs.Common.{rules}
use Rattle.mp_names.proofs.Apart.{stays_distinct}
use Rattle.mp_names.proofs.new_ledger.put_output.Goals as goal

pub returns-clause-distinct : goal.returns-clause-distinct
returns-clause-distinct c = λ distinct.
    stays_distinct c.args.entries.now.items c.push.new.self.items c.args.reference c.in_ok-output.output (Prim.search rules) distinct (Prim.search rules)
