-- Why nobody answered, in words. Assumes nothing.
use Rattle.std.specs.Prelude.{List, ◌++◌, ℕ, ◌-◌, length, drop}
use Rattle.frame.specs.Number.{bytes_of}
use Rattle.frame.specs.CheckSum.{crc_of, content}
use Rattle.print.specs.Ascii.{ascii}
use Rattle.print.specs.Decimal.{decimal_text}
use Rattle.print.specs.Hex.{hex_text}
use Rattle.request.specs.declared.why.Why.{Why}
use Rattle.request.specs.declared.why.Why.TheVariants as w
use Rattle.request.specs.declared.why.WhyChip.{WhyChip}
use Rattle.request.specs.declared.why.WhyChip.TheVariants as wc
use Rattle.request.specs.declared.signal.Signal.{Signal}
use Rattle.trace.specs.declared.reason.Reason.{Reason}
use Rattle.trace.specs.declared.reason.Reason.TheVariants as y
use Rattle.trace.specs.Reason.{reason_of}

-- a frame's check sum, as it stands and as it should be
unfoldable pub stands_text : List ℕ → List ℕ
stands_text f = hex_text (drop (length f - 2) f)

unfoldable pub should_text : List ℕ → List ℕ
should_text f = hex_text (bytes_of 2 (crc_of (content f)))

unfoldable pub sum_text : List ℕ → List ℕ
sum_text f = ascii "check sum wrong:" ++ (stands_text f ++ (ascii " for" ++ should_text f))

-- a frame that no label acts on
unfoldable pub frame_text : Why → List ℕ → List ℕ
frame_text w.Acts f = ascii "nobody answered"
frame_text w.Short f = ascii "under 4 bytes"
frame_text w.Bit3 f = ascii "flag bit 3 is set"
frame_text w.Bit7 f = ascii "flag bit 7 is set"
frame_text w.Sum f = sum_text f
frame_text w.OtherCommand f = ascii "Inventory flag with another command"
frame_text w.InventoryOption f = ascii "Inventory with Option"
frame_text w.LongMask f = ascii "mask too long"
frame_text w.OtherLength f = ascii "another length"
frame_text w.BothBits f = ascii "Select and Address both set"
frame_text w.ShortForUid f = ascii "too short for a UID"
frame_text w.Unflagged f = ascii "Inventory without its flag"
frame_text w.WantsUid f = ascii "wants a UID"
frame_text w.QuietFault f = ascii "stay quiet: not well formed"

-- a frame that chips ignore
unfoldable pub chip_frame_text : WhyChip → List ℕ → List ℕ
chip_frame_text wc.Heard f = ascii "no chip answered"
chip_frame_text wc.Short f = ascii "under 3 bytes"
chip_frame_text wc.Sum f = sum_text f
chip_frame_text wc.Unknown f = ascii "no such chip command"

unfoldable pub slot_text : List ℕ → ℕ → List ℕ
slot_text words s = words ++ decimal_text s

unfoldable pub reason_text : Reason → List ℕ → List ℕ
reason_text y.Other f = ascii "no such event"
reason_text y.EveryOff f = ascii "every tag is off"
reason_text y.TagsOn f = ascii "tags are on"
reason_text y.NoLabel f = ascii "no label here"
reason_text y.NoChip f = ascii "no chip here"
reason_text y.FieldOff f = ascii "field is off"
reason_text (y.Frame why) f = frame_text why f
reason_text y.NotReady f = ascii "no label is ready or selected"
reason_text y.NoFamily f = ascii "no label of this family"
reason_text y.NoMask f = ascii "no UID ends in this mask"
reason_text (y.InSlot s) f = slot_text (ascii "nobody in slot ") s
reason_text y.NoUid f = ascii "no label by that UID here"
reason_text y.LabelOff f = ascii "that label is off"
reason_text y.QuietSilent f = ascii "quiet has no answer"
reason_text y.NotSelected f = ascii "no label is selected"
reason_text y.NoRound f = ascii "no inventory is running"
reason_text (y.ChipFrame why) f = chip_frame_text why f
reason_text y.ChipNotReady f = ascii "no chip is ready or in inventory"
reason_text y.NoDraw f = ascii "no chip drew slot 0"
reason_text y.NotInventory f = ascii "no chip is in inventory"
reason_text (y.ChipSlot s) f = slot_text (ascii "no chip in slot ") s
reason_text y.NoChipId f = ascii "no chip by that Chip_ID can be selected"
reason_text y.NoAnswer f = ascii "has no answer"
reason_text y.ChipNotSelected f = ascii "no chip is selected"

unfoldable pub why_text : ℕ → List ℕ → Signal → List ℕ → List ℕ
why_text number f signal r = reason_text (reason_of number f signal r) f
