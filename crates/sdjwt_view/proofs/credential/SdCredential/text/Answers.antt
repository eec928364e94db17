use Rattle.sdjwt_view.specs.code.Content.{content_in_memory}
use Rattle.sdjwt_view.proofs.ReadSteps.{credential_said}
use Rattle.sdjwt_view.proofs.credential.SdCredential.text.Goals as goal

pub returns-clause-credential : goal.returns-clause-credential
returns-clause-credential c =
    credential_said c.args.self.now.text.now (content_in_memory c.args.self.now.content) c.args.self.now.read
