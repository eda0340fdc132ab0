-- How a fault is shown: its number, layer and place, and what the number means in words.
use Rattle.std.specs.Prelude.{ℕ, List, ◌++◌, codes, decimal}
use Rattle.device.specs.declared.Refusal.{Refusal}
use Rattle.device.specs.declared.Refusal.TheVariants.{MachineDown, PowerFailedInCall, UnknownMode, BadPath, DescriptorsTaken, NoSuchFile, ShelfFull, BadDescriptor, WrongMode, WriteTooLong, PastLimit, LogFull, ScratchTooShort, BadFormat, BadHeader, BadTail, BadRow, BadEntry, UnfitImage, OutOfRange, UnsettledWord, PowerFailed}
use Rattle.device.specs.declared.Fault.{Fault}
use Rattle.device.specs.declared.Failure.{Failure}
use Rattle.device.specs.declared.Failure.TheVariants.{Declined, NoMemory}
use Rattle.device.specs.Numbers.{number_of, layer_of}

abbrev pub phrase_of : Refusal → List ℕ
phrase_of MachineDown = codes "the machine is down"
phrase_of PowerFailedInCall = codes "power failed in this call"
phrase_of UnknownMode = codes "unknown mode"
phrase_of BadPath = codes "a path has 1 to 32 bytes, none of them zero"
phrase_of DescriptorsTaken = codes "all descriptors are taken"
phrase_of NoSuchFile = codes "no such file"
phrase_of ShelfFull = codes "no room for a new path"
phrase_of BadDescriptor = codes "no such descriptor"
phrase_of WrongMode = codes "the descriptor's mode does not allow this"
phrase_of WriteTooLong = codes "a write has at most 4096 bytes"
phrase_of PastLimit = codes "past the file limit"
phrase_of LogFull = codes "more entries are needed than are free"
phrase_of ScratchTooShort = codes "the scratch is too short"
phrase_of BadFormat = codes "the number of entries or the module's width does not fit"
phrase_of BadHeader = codes "wrong word in the header"
phrase_of BadTail = codes "the tail is no position"
phrase_of BadRow = codes "bad row of names"
phrase_of BadEntry = codes "bad entry"
phrase_of UnfitImage = codes "unfit image of a shelf"
phrase_of OutOfRange = codes "out of range"
phrase_of UnsettledWord = codes "the word is not settled"
phrase_of PowerFailed = codes "power failed"

abbrev pub shown_fault : Fault → List ℕ
shown_fault e =
    codes "refusal " ++ (decimal (number_of e.refusal) ++ (codes ", layer " ++ (decimal (layer_of e.layer) ++ (codes ", place " ++ (decimal e.place ++ (codes ": " ++ phrase_of e.refusal))))))

abbrev pub shown_failure : Failure → List ℕ
shown_failure (Declined e) = shown_fault e
shown_failure NoMemory = codes "no memory"
