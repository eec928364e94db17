-- The rules on the elements of a namespace and on the digests of issuer-signed items (ISO/IEC 18013-5,
-- sections 9.1.2.4 and 9.3.1).
use Rattle.std.specs.Prelude.{ℕ, Bool, false, not, List, [], ◌∷◌, map, Option, is_none}
use Rattle.std.specs.Option.{option_map_or}
use Rattle.std.specs.List.{list_any, list_all}
use Rattle.std.specs.Str.{bytes_eq}
use Rattle.base_forms.specs.Rules.{rule, first}
use Rattle.base_forms.specs.Texts.{differ}
use Rattle.base_forms.specs.Hash.{digest_by}
use Rattle.base_forms.specs.declared.hash.HashName.{HashName}
use Rattle.mdoc_items.specs.IssuerSignedItems.{IssuerSignedItem, Namespace}
use Rattle.mdoc_items.specs.MapFields.{Utf8, Entries}
use Rattle.mdoc_security.specs.ValueDigests.{digest_at}

abbrev pub elements_differ : Namespace → Bool
elements_differ n = differ (map (λ i. i.element_identifier) n.items)

-- an item has no digest
abbrev pub lacks : Entries → Utf8 → IssuerSignedItem → Bool
lacks digests name i = is_none (digest_at name i.digest_id digests)

-- an item has another digest than its own
abbrev pub deviates : HashName → Entries → Utf8 → IssuerSignedItem → Bool
deviates hash digests name i =
    option_map_or (λ d. not (bytes_eq d (digest_by hash i.span))) (digest_at name i.digest_id digests) false

abbrev pub any_item : (Utf8 → IssuerSignedItem → Bool) → Namespace → Bool
any_item test n = list_any (test n.name) n.items

-- rules 11 to 13: an element twice in its namespace, no digest, another digest
unfoldable pub digests_rule : HashName → Entries → List Namespace → Option ℕ
digests_rule hash digests ns = first
    (rule 11 (not (list_all elements_differ ns))
    ∷ rule 12 (list_any (any_item (lacks digests)) ns)
    ∷ rule 13 (list_any (any_item (deviates hash digests)) ns)
    ∷ [])
