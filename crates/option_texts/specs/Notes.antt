-- The notes on the credentials of a wallet: why one is not offered. It was not read, it is not valid at the
-- moment (RFC 7519, sections 4.1.4 and 4.1.5; ISO/IEC 18013-5, section 9.1.2.4), or the key that it is bound
-- to is not held. The lines are a text of this product's own.
use Rattle.std.specs.Prelude.{ℕ, ◌+◌, nat_lt, nat_le, Bool, false, List, [], ◌∷◌, ◌++◌, Option, Some, None}
use Rattle.std.specs.Prelude.{if◌then◌else◌, Ok, Err, is_some, codes}
use Rattle.std.specs.Fmt.{decimal}
use Rattle.std.specs.Option.{option_or, option_map_or}
use Rattle.claim_tree.specs.Credential.{Credential}
use Rattle.fit_table.specs.Slot.{Stands}
use Rattle.key_device.specs.Calls.{Held}
use Rattle.option_texts.specs.declared.slot_notes.Note.{Note}
use Rattle.option_texts.specs.declared.slot_notes.Note.TheVariants.{Unreadable, Early, Late, NoKey}

-- ---- which note

-- Before its first second it is early, at its end or past it late. It is in date exactly where it is neither.
abbrev pub date_note : ℕ → Option ℕ → ℕ → Option Note
date_note first past now =
    if nat_lt now first then Some Early
    else (if option_map_or (λ end. nat_le end now) past false then Some Late else None)

-- it has a holder whose key is held
abbrev pub is_held : Held → Option (List ℕ) → Bool
is_held held holder = option_map_or (λ name. is_some (held name)) holder false

abbrev pub key_note : Held → Option (List ℕ) → Option Note
key_note held holder = if is_held held holder then None else Some NoKey

-- the first that applies to a credential that was read
abbrev pub credential_note : Held → ℕ → Credential → Option Note
credential_note held now c = option_or (date_note c.first c.past now) (key_note held c.holder)

-- the first that applies to a slot, at the second `now`
abbrev pub note_of : Held → ℕ → Stands → Option Note
note_of held now (Err rule) = Some (Unreadable rule)
note_of held now (Ok c) = credential_note held now c

-- ---- what is printed

abbrev pub note_text : Note → List ℕ
note_text (Unreadable rule) = codes "unreadable " ++ decimal rule
note_text Early = codes "early"
note_text Late = codes "late"
note_text NoKey = codes "no-key"

-- on the slot with this number
abbrev pub note_line : ℕ → Note → List ℕ
note_line number note = codes "note " ++ (decimal number ++ (codes " " ++ (note_text note ++ codes "\n")))

-- of the slot with this number, if there is a note on it
abbrev pub slot_line : ℕ → Option Note → List ℕ
slot_line number note = option_map_or (note_line number) note []

-- for slots of which the first has this number
abbrev pub notes_text : Held → ℕ → ℕ → List Stands → List ℕ
notes_text held now number [] = []
notes_text held now number (slot ∷ slots) =
    slot_line number (note_of held now slot) ++ notes_text held now (number + 1) slots
