-- Texts as they are read: each definition at some values. Assumes nothing.
use mathlib.Core.Path.{◌≡◌, refl}
use mathlib.Core.Bool.{true, false}
use mathlib.Core.List.{List, [], ◌∷◌, ◌++◌}
use Prim.Native.Nat.{ℕ}
use lib.ListN.{replicate}
use Rattle.frame.specs.Choose.{all_of, gather}
use Rattle.frame.specs.Ending.{bytes_for}
use Rattle.print.specs.Ascii.{ascii}
use Rattle.print.specs.Decimal.{decimal_text}
use Rattle.print.specs.Hex.{digit_of, uid_text}
use Rattle.print.specs.Named.{word_byte, word_number}
use Rattle.print.specs.Quote.{visible, quoted_text}
use Rattle.request.specs.Label.{both}
use Rattle.request.specs.declared.table.Task.TheVariants as t
use Rattle.request.specs.declared.label.Target.TheVariants.{Selected, One}
use Rattle.request.specs.declared.label.Family.TheVariants.{Only}
use Rattle.request.specs.declared.label.Call.{Call}
use Rattle.request.specs.declared.label.Call.TheVariants as k
use Rattle.request.specs.declared.chip.Order.TheVariants as o
use Rattle.request.specs.declared.signal.Signal.{Signal}
use Rattle.answer.specs.declared.reading.Meaning.TheVariants as m
use Rattle.tell.specs.Names.{target_text, read_text, byte_of, range_text, read_many_text, status_text, task_text, do_text, slots_text, family_text}
use Rattle.tell.specs.Names.{bits_text, mask_text, inventory_text, call_text, order_text, name_text}
use Rattle.tell.specs.Meanings.{denied_words, error_words, error_text, shown_text, lock_text, lock_block_text, word_text, found_text, sizes_text, info_text}
use Rattle.tell.specs.Meanings.{blocks_text, pieces_of, pieces_text, unlocked, locked_one, locked_numbers, locked_text, locked_blocks_text, locks_text, meant_text}
use Rattle.tell.specs.Lines.{reply_text, front_text, gap_of, beside_text, line_text, event_word, quiet_text}

abbrev uid : List ℕ
uid = 0x11 ∷ 0 ∷ 0 ∷ 0 ∷ 0 ∷ 0 ∷ 0 ∷ 0xE0 ∷ []

abbrev asks : Call → Signal
asks call = record { label = record { uid = uid; call = call }; chip = o.Ignored }

read_named : name_text 3 (asks (k.Do One t.Read (both 2 0) true)) ≡ ascii "read block 2 with lock of E000000000000011"
unfolding name_text call_text do_text task_text read_text target_text word_number decimal_text uid_text digit_of
read_named = refl

many_named : name_text 3 (asks (k.Do One t.ReadMany (both 2 3) true)) ≡ ascii "read blocks 2 to 5 with locks of E000000000000011"
unfolding name_text call_text do_text task_text read_many_text range_text target_text word_number decimal_text uid_text digit_of
many_named = refl

-- a last block that no label has is named too
status_named : name_text 3 (asks (k.Do Selected t.Status (both 250 15) false)) ≡ ascii "status of blocks 250 to 265 of selected"
unfolding name_text call_text do_text task_text status_text range_text target_text word_number decimal_text digit_of
status_named = refl

afi_named : name_text 3 (asks (k.Do Selected t.WriteAfi (both 0x3A 0) false)) ≡ ascii "write AFI 3A of selected"
unfolding name_text call_text do_text task_text byte_of target_text word_byte digit_of
afi_named = refl

inventory_named : name_text 3 (asks (k.Inventory (Only 0x31) true 12 0x0BF)) ≡ ascii "inventory 16 afi 31 mask 12/00BF"
unfolding name_text call_text inventory_text slots_text family_text mask_text bits_text bytes_for word_byte word_number decimal_text uid_text digit_of
inventory_named = refl

chip_named : name_text 5 (record { label = record { uid = replicate 8 0; call = k.Ignored }; chip = o.Write 255 7 }) ≡ ascii "put 255"
unfolding name_text order_text word_number decimal_text digit_of
chip_named = refl

locked_told : meant_text true 0 (m.Error 0x12) uid [] ≡ ascii "error 12: block is locked"
unfolding meant_text error_text error_words denied_words word_byte digit_of
locked_told = refl

block_told : meant_text false 0 (m.LockAndBlock 1 2 4) uid (0 ∷ 1 ∷ (ascii "done" ++ (0xA0 ∷ 0x30 ∷ []))) ≡ ascii "locked, \"done\""
unfolding meant_text lock_block_text lock_text shown_text visible quoted_text
block_told = refl

-- blocks 6 to 8, of two bytes each, with a lock byte before each: the second is locked
abbrev three : List ℕ
three = 0 ∷ 0 ∷ (ascii "ta" ++ (1 ∷ (ascii "gr" ++ (0 ∷ (ascii "ac" ++ (0xA0 ∷ 0x30 ∷ []))))))

blocks_told : meant_text false 6 (m.LocksAndBlocks 1 2 3) uid three ≡ ascii "3 blocks of 2, locked 7, \"tagrac\""
unfolding meant_text locked_blocks_text blocks_text locked_text unlocked locked_numbers locked_one pieces_text pieces_of all_of gather
    shown_text visible quoted_text word_number decimal_text digit_of
blocks_told = refl

locks_told : meant_text false 6 (m.Locks 1 3) uid (0 ∷ 0 ∷ 0 ∷ 0 ∷ 0xA0 ∷ 0x30 ∷ []) ≡ ascii "3 blocks, none locked"
unfolding meant_text locks_text locked_text unlocked all_of decimal_text digit_of
locks_told = refl

word_told : meant_text false 0 (m.Word 100) uid [] ≡ ascii "100"
unfolding meant_text word_text shown_text visible decimal_text digit_of
word_told = refl

info_told : meant_text false 0 (m.Info 0x0D 0x31 27 3 1) uid [] ≡ ascii "E000000000000011, DSFID 0D, AFI 31, 28 blocks of 4, IC 01"
unfolding meant_text info_text found_text sizes_text word_byte word_number decimal_text uid_text digit_of
info_told = refl

line_told : line_text (front_text 7 4 (asks k.EndOfFrame) (record { number = 0; answered = 0; length = 0 }) []) (ascii "no inventory is running")
    ≡ ascii "7 eof: silence                                              no inventory is running\n"
unfolding line_text front_text name_text call_text reply_text beside_text gap_of decimal_text digit_of
line_told = refl

quiet_told : quiet_text 12 3 (record { number = 0; answered = 1; length = 3 }) (0 ∷ 0x78 ∷ 0xF0 ∷ 9 ∷ []) ≡ ascii "12 label: 00 78 F0\n"
unfolding quiet_text event_word reply_text decimal_text digit_of
quiet_told = refl
