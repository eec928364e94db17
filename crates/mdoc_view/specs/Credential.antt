-- What a credential in memory says: the bytes that it was read from, their content, and the credential in it
-- (ISO/IEC 18013-5, section 8.3.2.1.2.2).
use Rattle.std.specs.Prelude.{ℕ, List}
use Rattle.claim_tree.specs.Credential.{Credential}
use Rattle.mdoc_view.specs.Reading.{Content}
use Rattle.mdoc_view.specs.code.Content.{content_in_memory}
use Rattle.mdoc_view.specs.declared.credential.MdCredential.{MdCredential}

abbrev pub source_of : MdCredential → List ℕ
source_of c = c.bytes.now

abbrev pub content_of : MdCredential → Content
content_of c = content_in_memory c.content

abbrev pub meaning : MdCredential → Credential
meaning c = (content_of c).credential
