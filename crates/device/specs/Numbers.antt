-- The number of each refusal and of each layer. Every promise that speaks of a refusal speaks of it by these.
use Rattle.std.specs.Prelude.{◌≡◌, ℕ, Ok, Err, Result}
use Rattle.device.specs.declared.Refusal.{Refusal}
use Rattle.device.specs.declared.Refusal.TheVariants.{MachineDown, PowerFailedInCall, UnknownMode, BadPath, DescriptorsTaken, NoSuchFile, ShelfFull, BadDescriptor, WrongMode, WriteTooLong, PastLimit, LogFull, ScratchTooShort, BadFormat, BadHeader, BadTail, BadRow, BadEntry, UnfitImage, OutOfRange, UnsettledWord, PowerFailed}
use Rattle.device.specs.declared.Layer.{Layer}
use Rattle.device.specs.declared.Layer.TheVariants.{Machine, Log, Module, Shelf}
use Rattle.device.specs.declared.Fault.{Fault}

abbrev pub number_of : Refusal → ℕ
number_of MachineDown = 1
number_of PowerFailedInCall = 2
number_of UnknownMode = 3
number_of BadPath = 4
number_of DescriptorsTaken = 5
number_of NoSuchFile = 6
number_of ShelfFull = 7
number_of BadDescriptor = 8
number_of WrongMode = 9
number_of WriteTooLong = 10
number_of PastLimit = 11
number_of LogFull = 12
number_of ScratchTooShort = 13
number_of BadFormat = 14
number_of BadHeader = 15
number_of BadTail = 16
number_of BadRow = 17
number_of BadEntry = 18
number_of UnfitImage = 19
number_of OutOfRange = 20
number_of UnsettledWord = 21
number_of PowerFailed = 22

abbrev pub layer_of : Layer → ℕ
layer_of Machine = 0
layer_of Log = 1
layer_of Module = 2
layer_of Shelf = 3

-- a refusal as it is told: a number, a layer and a place
pub record Told : Type 0 where
  pub number : ℕ
  pub layer : ℕ
  pub place : ℕ

abbrev pub refusal : ℕ → ℕ → ℕ → Told
refusal n l p = record { number = n; layer = l; place = p }

abbrev pub told : Fault → Told
told e = refusal (number_of e.refusal) (layer_of e.layer) e.place

-- the fault e has the number n, the layer l and the place p
abbrev pub Says : Fault → ℕ → ℕ → ℕ → Type 0
Says e n l p = told e ≡ refusal n l p

-- what a call answers, with its refusal as it is told
abbrev pub answer : {X : Type 0} → Result X Fault → Result X Told
answer (Ok x) = Ok x
answer (Err e) = Err (told e)
