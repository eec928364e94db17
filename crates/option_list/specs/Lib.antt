pub use Rattle.admitted_answers.specs.Admits
pub use Rattle.admitted_answers.specs.Least
pub use Rattle.admitted_answers.specs.Laws
pub mod Token
pub mod Form
pub mod Rules
pub mod TokenLaws
pub mod code
