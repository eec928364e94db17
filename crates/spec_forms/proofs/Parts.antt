-- The parts of a JSON value in which the names of members ascend.
use Rattle.std.proofs.Common.{◌≡◌, true, Some, Ordering, Less, Equal, Greater, nat_cmp, subst}
use Rattle.std.specs.Ordering.{match_ordering}
use Rattle.std.specs.Cmp.Lexicographic.{slice_cmp}
use Rattle.std.proofs.lemmas.Bool.{and_parts}
use Rattle.serde_json.specs.Data.{Data, null, boolean, number, string, array, object, Members as Fields}
use Rattle.serde_json.specs.Data.{no_members as no_fields, member as field}
use Rattle.serde_json.specs.Find.{get, get_member, as_object}
use Rattle.base_forms.specs.Texts.{Utf8}
use Rattle.claim_tree.specs.Tree.{is_claim, ascend, hold_claims, member_names}
use Rattle.claim_tree.specs.Plain.{plain, plain_members as plain_fields}

member_claim_at : (o : Ordering) (k : Utf8) (d found : Data) (ms : Fields) → is_claim (plain d) ≡ true
    → (get_member k ms ≡ Some found → is_claim (plain found) ≡ true)
    → match_ordering o (get_member k ms) (Some d) (get_member k ms) ≡ Some found
    → is_claim (plain found) ≡ true
member_claim_at Less k d found ms here later e = later e
member_claim_at Equal k d found ms here later e =
    let is : d ≡ found = cc in subst (λ v. is_claim (plain v) ≡ true) is here
member_claim_at Greater k d found ms here later e = later e

member_claim : (k : Utf8) (found : Data) (ms : Fields) → hold_claims (plain_fields ms) ≡ true
    → get_member k ms ≡ Some found → is_claim (plain found) ≡ true
member_claim k found no_fields h e = cc
member_claim k found (field l d ms) h e =
    let both = and_parts (is_claim (plain d)) (hold_claims (plain_fields ms)) h in
    member_claim_at (slice_cmp nat_cmp k l) k d found ms both.0 (member_claim k found ms both.1) e

-- a member of a value that is read is as one that is read
pub part_claim : (k : Utf8) (d found : Data) → is_claim (plain d) ≡ true → get k d ≡ Some found
    → is_claim (plain found) ≡ true
part_claim k null found h e = cc
part_claim k (boolean b) found h e = cc
part_claim k (number n) found h e = cc
part_claim k (string s) found h e = cc
part_claim k (array ds) found h e = cc
part_claim k (object ms) found h e =
    let both = and_parts (ascend (member_names (plain_fields ms))) (hold_claims (plain_fields ms)) h in
    member_claim k found ms both.1 e

pub object_claim : (d : Data) (ms : Fields) → is_claim (plain d) ≡ true → as_object d ≡ Some ms
    → is_claim (plain (object ms)) ≡ true
object_claim null ms h e = cc
object_claim (boolean b) ms h e = cc
object_claim (number n) ms h e = cc
object_claim (string s) ms h e = cc
object_claim (array ds) ms h e = cc
object_claim (object fs) ms h e =
    let is : fs ≡ ms = cc in subst (λ v. is_claim (plain (object v)) ≡ true) is h
