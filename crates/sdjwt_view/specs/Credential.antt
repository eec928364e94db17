-- What a credential in memory says: its text, the content of that text, and the credential among it (RFC
-- 9901, section 7.1; SD-JWT VC, section 3.2).
use Rattle.claim_tree.specs.Credential.{Credential}
use Rattle.base_forms.specs.Texts.{Utf8}
use Rattle.sdjwt_view.specs.Reading.{Content}
use Rattle.sdjwt_view.specs.code.Content.{content_in_memory}
use Rattle.sdjwt_view.specs.declared.credential.SdCredential.{SdCredential}

abbrev pub text_of : SdCredential → Utf8
text_of c = c.text.now

abbrev pub content_of : SdCredential → Content
content_of c = content_in_memory c.content

abbrev pub meaning : SdCredential → Credential
meaning c = (content_of c).credential
