-- A conversation as it would be alone.
use Rattle.std.specs.Arc.{arc_value}
use Rattle.mp_rules.specs.Verifier.{Accepts}
use Rattle.mp_history.specs.Log.{Log}
use Rattle.mp_session.specs.declared.session.Stage.{Stage}
use Rattle.mp_session.specs.declared.session.Stage.TheVariants.{Open}
use Rattle.mp_serve.specs.ServedPool.{ServedPool}
use Rattle.mp_serve.specs.declared.conversation.Conversation as alone
use Rattle.mp_clients.specs.declared.conversation.Conversation.{Conversation}
use Rattle.mp_clients.specs.Client.{Client, served_at}

-- the pool that the client has seen
abbrev pub stage_of : Accepts → Client → Stage ServedPool
stage_of accepts k = Open (served_at accepts k k.pass.front)

-- the conversation with the pool after a history
abbrev pub alone_at : {N : Type 0} → Accepts → Conversation N → Log → alone.Conversation
alone_at accepts c log = record {
  signatures = c.client.signatures;
  session = record { names = c.names; settings = arc_value c.settings; stage = Open (served_at accepts c.client log) };
  staged = c.staged;
  most_names = c.most_names;
  line = c.line;
}
