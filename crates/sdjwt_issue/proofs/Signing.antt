-- The text that is made of a spec in memory, and the run in which the device signs it.
use Rattle.std.proofs.Common.{◌≡◌, ◌≤◌, ℕ, true, List, [], ◌∷◌, map, Option, Some, None, refl, sym, ap, ap₂}
use Rattle.std.proofs.Common.{◌∙◌, subst, arith, IsSomeAnd, string_bytes, Err}
use Rattle.serde_json.specs.Data.{Data, object, depth, members_depth}
use Rattle.serde_json.specs.Read.{max_depth}
use Rattle.serde_json.specs.View.{view}
use Rattle.base_forms.specs.Texts.{Utf8}
use Rattle.json_forms.specs.Look.{is_object}
use Rattle.jws_envelope.specs.Draft.{input_of, message_of, IsReadAs}
use Rattle.claim_tree.specs.Credential.{Algorithm, jose, Credential}
use Rattle.claim_tree.specs.SignAlg.{jose_name}
use Rattle.claim_tree.specs.declared.algorithm.SignAlg.{SignAlg}
use Rattle.outside.specs.Calls.{gave, failed, exhausted}
use Rattle.key_device.specs.Calls.{Held, Judges}
use Rattle.key_device.specs.Device.{DeviceState, IsSigned, IsYes, IsGenuine, signature_given}
use Rattle.key_device.specs.declared.device.SignError.{SignError}
use Rattle.key_device.specs.declared.device.SignError.TheVariants as sign
use Rattle.runs.specs.Runs.{value, refused, out_of_memory, Runs}
use Rattle.runs.specs.World.{World}
use Rattle.runs.proofs.Trees.{runs_as, runs_gives, runs_out, runs_stops}
use Rattle.runs.proofs.Questions.{runs_sign, runs_sign_fault, runs_sign_out}
use Rattle.sdjwt_hiding.specs.Hiding.{Numbered, met, by_number}
use Rattle.sdjwt_hiding.specs.Disclosing.{by_sha256, text_of, told, disclosure_texts}
use Rattle.sdjwt_hiding.specs.Issued.{made_of}
use Rattle.sdjwt_hiding.specs.declared.disclosure_text.IssuedDisclosure.{IssuedDisclosure}
use Rattle.sdjwt_hiding.specs.declared.hidden.Hidden.{Hidden}
use Rattle.sdjwt_hiding.proofs.Depths.{hidden_depth}
use Rattle.sdjwt_issue.specs.Spec.{Spec, all_members, IsSdJwtSpec}
use Rattle.sdjwt_issue.specs.Asked.{marks, input_for, text_for, AreReadBack, IsAsked, ReadsAsAsked}
use Rattle.sdjwt_issue.specs.Issued.{joined, payload_of, header_by}
use Rattle.sdjwt_issue.specs.Issuing.{key_missing, sign_tree}
use Rattle.sdjwt_issue.specs.Endings.{early, IsSealYes, IsIssued}
use Rattle.sdjwt_issue.specs.code.Hiding.{IsHidden}
use Rattle.sdjwt_issue.specs.code.Unsigned.{unsigned}
use Rattle.sdjwt_issue.proofs.Members.{all_fine}

-- ---- the text

texts_made : (ds : List IssuedDisclosure)
    → map (λ t. t.2) (map made_of ds) ≡ map (λ d. string_bytes d.text) ds
texts_made [] = refl
texts_made (d ∷ ds) = ap (λ ts. string_bytes d.text ∷ ts) (texts_made ds)

texts_told : (ps : List Numbered) → map (λ t. t.2) (map told ps) ≡ map text_of ps
texts_told [] = refl
texts_told (p ∷ ps) = ap (λ ts. text_of p ∷ ts) (texts_told ps)

texts_are : (s : Spec) (h : Hidden) → IsHidden s h
    → map (λ d. string_bytes d.text) h.disclosures.items ≡ disclosure_texts (marks s) (object (all_members s))
texts_are s h hidden =
    sym (texts_made h.disclosures.items) ∙ ap (map (λ t. t.2)) hidden.disclosures
    ∙ texts_told (by_number (met by_sha256 (marks s) (object (all_members s))))

-- what is signed, by a header with this identifier of the key
pub input_is : (s : Spec) (alg : SignAlg) (h : Hidden) (key input : Utf8) → IsHidden s h → key ≡ s.key
    → input ≡ input_of (header_by alg key) (view h.value) → input ≡ input_for s alg
input_is s alg h key input hidden is_key is =
    is ∙ ap₂ (λ (k : Utf8) (d : Data). input_of (header_by alg k) d) is_key hidden.payload

pub text_is : (s : Spec) (alg : SignAlg) (signature given : List ℕ) (h : Hidden) (input text : Utf8)
    (ds : List IssuedDisclosure)
    → IsHidden s h → input ≡ input_for s alg → given ≡ signature → ds ≡ h.disclosures.items
    → text ≡ joined (message_of input given ∷ map (λ d. string_bytes d.text) ds)
    → text ≡ text_for s alg signature
text_is s alg signature given h input text ds hidden is_input is_given is_ds is =
    is ∙ ap₂ (λ (m : Utf8) (ts : List Utf8). joined (m ∷ ts)) (ap₂ message_of is_input is_given)
    (ap (map (λ d. string_bytes d.text)) is_ds ∙ texts_are s h hidden)

-- ---- it is read back

payload_deep : (s : Spec) → IsSdJwtSpec s → depth (payload_of (marks s) (all_members s)) ≤ max_depth
payload_deep s may =
    let level : members_depth (all_members s) ≤ 63 = (all_fine s may).shallow in
    omega (arith, hidden_depth by_sha256 (marks s) (object (all_members s)))

read_at : (s : Spec) (alg : SignAlg) (payload : Data) (key input : Utf8) → IsSdJwtSpec s
    → payload ≡ payload_of (marks s) (all_members s) → key ≡ s.key → input ≡ input_for s alg
    → (is_object payload ≡ true → depth payload ≤ max_depth → IsReadAs (header_by alg key) payload input)
    → IsReadAs (header_by alg s.key) (payload_of (marks s) (all_members s)) (input_for s alg)
read_at s alg payload key input may is is_key is_input read =
    subst (λ (k : Utf8). IsReadAs (header_by alg k) (payload_of (marks s) (all_members s)) (input_for s alg))
    is_key
    (subst (λ (i : Utf8). IsReadAs (header_by alg key) (payload_of (marks s) (all_members s)) i) is_input
    ((subst (λ (d : Data). is_object d ≡ true → depth d ≤ max_depth → IsReadAs (header_by alg key) d input)
    is read) refl (payload_deep s may)))

pub are_read_back : (s : Spec) (alg : SignAlg) (h : Hidden) (key input : Utf8) → IsSdJwtSpec s
    → IsHidden s h → key ≡ s.key → input ≡ input_for s alg
    → (is_object (view h.value) ≡ true → depth (view h.value) ≤ max_depth
    → IsReadAs (header_by alg key) (view h.value) input)
    → AreReadBack s alg
are_read_back s alg h key input may hidden is_key is_input read = record {
  message = read_at s alg (view h.value) key input may hidden.payload is_key is_input read;
  disclosed = hidden.disclosed;
}

seal_yes : (s : Spec) (alg : SignAlg) (judged : Judges) (signature : List ℕ) (c : Credential)
    → IsAsked s alg signature c → judged s.key_name (jose (jose_name alg)) (input_for s alg) signature ≡ true
    → IsSealYes judged c
seal_yes s alg judged signature c asked is_yes =
    ap (λ (name : Utf8). judged name c.seal.algorithm c.seal.message c.seal.signature) asked.issuer
    ∙ ap (λ (a : Algorithm). judged s.key_name a c.seal.message c.seal.signature) asked.algorithm
    ∙ ap (λ (m : List ℕ). judged s.key_name (jose (jose_name alg)) m c.seal.signature) asked.message
    ∙ ap (judged s.key_name (jose (jose_name alg)) (input_for s alg)) asked.signature_is
    ∙ is_yes

pub is_issued : (s : Spec) (alg : SignAlg) (held : Held) (judged : Judges) (signature : List ℕ) (text : Utf8)
    → held s.key_name ≡ Some alg → text ≡ text_for s alg signature
    → IsGenuine held judged s.key_name (input_for s alg) signature → ReadsAsAsked s alg signature
    → IsIssued s held judged text
is_issued s alg held judged signature text key is genuine reads =
    let is_yes : IsYes judged s.key_name alg (input_for s alg) signature =
    subst (λ (o : Option SignAlg). IsSomeAnd o (λ a. IsYes judged s.key_name a (input_for s alg) signature))
    key genuine in record {
      sealed = record { alg = alg; signature = signature; holds = key; text_is = is; yes = is_yes };
      reads = reads;
      genuine = seal_yes s alg judged signature reads.credential reads.is_asked is_yes.in_jws;
    }

-- ---- the run

pub runs_missing : (s : Spec) (key : Option SignAlg) (w : World) → key ≡ None
    → Runs (sign_tree s key) w w (refused key_missing)
runs_missing s key w is = runs_as _ _ w w (refused key_missing) (ap (sign_tree s) is)
    (runs_stops _ key_missing key_missing w refl)

module _ (s : Spec) (key : Option SignAlg) (alg : SignAlg) (is_key : key ≡ Some alg) where
  module _ (input : Utf8) (is_input : input ≡ input_for s alg) (old new : DeviceState) (w : World) where
    -- the device gave a signature, and the text was made of it
    pub runs_made : (signature : List ℕ) (text : Utf8)
        → IsSigned s.key_name input old new (gave signature) → text ≡ text_for s alg signature
        → Runs (sign_tree s key) (record w { device = old }) (record w { device = new }) (value text)
    runs_made signature text signed is = runs_as _ _ _ _ (value text) (ap (sign_tree s) is_key)
        (runs_sign s.key_name (input_for s alg) _ old new signature w (value text)
        (subst (λ (i : Utf8). IsSigned s.key_name i old new (gave signature)) is_input signed)
        (runs_gives _ _ text _ is))

    -- memory ran out for the text
    pub runs_unmade : (signature : List ℕ) → IsSigned s.key_name input old new (gave signature)
        → Runs (sign_tree s key) (record w { device = old }) (record w { device = new }) out_of_memory
    runs_unmade signature signed = runs_as _ _ _ _ out_of_memory (ap (sign_tree s) is_key)
        (runs_sign s.key_name (input_for s alg) _ old new signature w out_of_memory
        (subst (λ (i : Utf8). IsSigned s.key_name i old new (gave signature)) is_input signed)
        (runs_out _ _))

    -- it gave none
    pub runs_unsigned : (error : SignError) → IsSigned s.key_name input old new (signature_given (Err error))
        → Runs (sign_tree s key) (record w { device = old }) (record w { device = new })
        (early (unsigned error))
    runs_unsigned sign.Failed signed = runs_as _ _ _ _ _ (ap (sign_tree s) is_key)
        (runs_sign_fault s.key_name (input_for s alg) _ old new w
        (subst (λ (i : Utf8). IsSigned s.key_name i old new failed) is_input signed))
    runs_unsigned sign.NoMemory signed = runs_as _ _ _ _ _ (ap (sign_tree s) is_key)
        (runs_sign_out s.key_name (input_for s alg) _ old new w
        (subst (λ (i : Utf8). IsSigned s.key_name i old new exhausted) is_input signed))
