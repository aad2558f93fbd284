pub mod Items
pub mod DataLaws
pub mod DatumRefLaws
pub mod OperatorLaws
pub mod ScriptLaws
pub mod EvalLaws
pub mod LawsLemmas
