-- What the reading of the disclosures' texts comes to.
use Rattle.std.specs.Prelude.{◌≡◌, List, map, Some, None}
use Rattle.jws_envelope.specs.Envelope.{Envelope}
use Rattle.sdjwt_view.specs.declared.disclosure_list.Listed.{Listed}
use Rattle.sdjwt_view.specs.declared.disclosure_list.Listed.TheVariants.{Read, Broken}
use Rattle.base_forms.specs.Texts.{Utf8}
use Rattle.sdjwt_digests.specs.Disclosures.{all_disclosed}
use Rattle.sdjwt_view.specs.Reading.{hash_of, forms_rule}
use Rattle.sdjwt_digests.specs.Disclosure.{said}

-- none of the rules 3 to 6 is broken and this is what the texts say, or this is the first that is broken
abbrev pub IsListed : Envelope → List Utf8 → Listed → Type 0
IsListed e texts (Read hash list) = (forms_rule e texts ≡ None) × (hash ≡ hash_of e.payload)
    × (all_disclosed (hash_of e.payload) texts ≡ Some (map said list.items))
IsListed e texts (Broken n) = forms_rule e texts ≡ Some n
