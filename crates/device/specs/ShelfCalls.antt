-- What each call of a shelf does, by its answer. m is the shelf before the call and n after it. A call that does not do what it is asked
-- answers a refusal of layer 3, the shelf's, whose place is the handle that the call was given, or 16 where it takes none. It asks its
-- questions in this order: has power failed (22), is the path bad (4), is there no room for a new path (7), is the handle unknown or the
-- end of the bytes past the limit (20).
use Rattle.std.specs.Prelude.{◌≡◌, ℕ, ◌+◌, ◌<◌, ◌≤◌, Bool, true, false, cond, ◌||◌, ◌⊎◌, List, [], length, replicate, is_some, Some, None, Ok, Err, Option, Result, ◌==◌, ◌≢◌}
use Rattle.std.specs.Option.{option_map}
use Rattle.device.specs.Contents.{inside, part, written}
use Rattle.device.specs.Files.{File, Files, FoundChoice, firm}
use Rattle.device.specs.Numbers.{Says}
use Rattle.device.specs.Paths.{Path, path_fits}
use Rattle.device.specs.declared.Fault.{Fault}

-- What may become of one file, f before and g after. What is found may become another choice in any call.

-- no current byte, no size and no loose position changes
pub record Same (f g : File) : Type 0 where
  pub bytes : g.bytes ≡ f.bytes
  pub sure : g.sure ≡ f.sure
  pub loose : (i : ℕ) → g.loose i ≡ f.loose i

-- A choice that is left to the device: in a write, any loose position of any file may become firm, and any sure size may rise, to the
-- current size at most.
pub record FirmChoice (f g : File) : Type 0 where
  pub bytes : g.bytes ≡ f.bytes
  pub sure : f.sure ≤ g.sure
  pub loose : (i : ℕ) → g.loose i ≡ true → f.loose i ≡ true

-- A choice that is left to the device: which of the positions written become loose. The file that is written may become firmer besides.
pub record LooseChoice (at : ℕ) (ds : List ℕ) (f g : File) : Type 0 where
  pub bytes : g.bytes ≡ written f.bytes at ds
  pub sure : f.sure ≤ g.sure
  pub loose : (i : ℕ) → g.loose i ≡ true → (f.loose i ≡ true) ⊎ (inside at (length ds) i ≡ true)

-- what may be found of g might have been found of f
abbrev pub Left : File → File → Type 0
Left f g = (c : List ℕ) → FoundChoice g c → FoundChoice f c

-- f after a whole write of which nothing is sure yet: all positions written are loose, and the sure size has not moved
abbrev pub wet : ℕ → List ℕ → File → File
wet at ds f = record { bytes = written f.bytes at ds; sure = f.sure; loose = λ i. f.loose i || inside at (length ds) i; found = f.found }

-- a path has a file before and after, related so, or none before and after
abbrev pub Both : (File → File → Type 0) → Option File → Option File → Type 0
Both R None None = Unit {0}
Both R None (Some g) = ⊥
Both R (Some f) None = ⊥
Both R (Some f) (Some g) = R f g

-- What may become of a shelf.

-- it is lit before and after, and no path and no handle comes or goes
pub record Steady (m n : Files) : Type 0 where
  pub lit : m.lit ≡ true
  pub lit_after : n.lit ≡ true
  pub limit : n.limit ≡ m.limit
  pub count : n.count ≡ m.count
  pub handle : (h : ℕ) → n.handle h ≡ m.handle h

-- nothing changes but what is found
pub record Kept (m n : Files) : Type 0 where
  pub steady : Steady m n
  pub files : (p : Path) → Both Same (m.file p) (n.file p)

-- the call is declined by a number at a place for a reason, and nothing changes
pub record Declined (m n : Files) (e : Fault) (number place : ℕ) (Reason : Type 0) : Type 0 where
  pub reason : Reason
  pub says : Says e number 3 place
  pub kept : Kept m n

-- A choice that is left to the device: in any call but limit and restart, power may fail. The call is declined by 22 and the shelf is
-- dark, as it is if power had failed before. Of each path that is found which might have been found before the call; or, where the shelf
-- was lit, what the call would have done to that path: its effect.
pub record Failed (m n : Files) (e : Fault) (place : ℕ) (Effect : Path → Type 0) : Type 0 where
  pub says : Says e 22 3 place
  pub dark : n.lit ≡ false
  pub limit : n.limit ≡ m.limit
  pub files : (p : Path) → Both Left (m.file p) (n.file p) ⊎ ((m.lit ≡ true) × Effect p)

-- the call does nothing that could be found
abbrev pub NoEffect : Path → Type 0
NoEffect p = ⊥

-- the handle stands for a path, and the path has a file
pub record Reached (m : Files) (h : ℕ) : Type 0 where
  pub path : Path
  pub file : File
  pub named : m.handle h ≡ Some path
  pub there : m.file path ≡ Some file

-- the handle is unknown, or the bytes would end past the limit
abbrev pub OutOfReach : Files → ℕ → ℕ → Type 0
OutOfReach m h end = (m.handle h ≡ None) ⊎ (m.limit < end)

-- has(path) answers whether the path has a file
pub record Told (m : Files) (p : Path) (answer : Bool) (n : Files) : Type 0 where
  pub path : path_fits p ≡ true
  pub is : answer ≡ is_some (m.file p)
  pub kept : Kept m n

abbrev pub HasAnswered : Files → Path → Files → Result Bool Fault → Type 0
HasAnswered m p n (Ok b) = Told m p b n
HasAnswered m p n (Err e) = Failed m n e 16 NoEffect ⊎ Declined m n e 4 16 (path_fits p ≡ false)

-- size(h) answers the current size
pub record Measured (m : Files) (h size : ℕ) (n : Files) : Type 0 where
  pub reached : Reached m h
  pub is : size ≡ length reached.file.bytes
  pub kept : Kept m n

abbrev pub Sized : Files → ℕ → Files → Result ℕ Fault → Type 0
Sized m h n (Ok s) = Measured m h s n
Sized m h n (Err e) = Failed m n e h NoEffect ⊎ Declined m n e 20 h (m.handle h ≡ None)

-- A choice that is left to the device: the number of a path's handle. It stands for no other path, and, since no path has two handles, it
-- is the handle that the path had, if it had one.
pub record HandleChoice (m : Files) (p : Path) (h : ℕ) : Type 0 where
  pub low : h < 16
  pub free : (m.handle h ≡ Some p) ⊎ (m.handle h ≡ None)

-- a path's file before and after the path is opened: a new one is empty, and sure to be there
abbrev pub OpenedFile : Option File → Option File → Type 0
OpenedFile None o = o ≡ Some (firm [])
OpenedFile (Some f) o = Both Same (Some f) o

-- open(path) answers the path's handle, and makes the file if there is none
pub record Opens (m : Files) (p : Path) (h : ℕ) (n : Files) : Type 0 where
  pub path : path_fits p ≡ true
  pub room : m.file p ≡ None → m.count < 16
  pub lit : m.lit ≡ true
  pub lit_after : n.lit ≡ true
  pub limit : n.limit ≡ m.limit
  pub count : n.count ≡ cond (is_some (m.file p)) m.count (m.count + 1)
  pub choice : HandleChoice m p h
  pub handle : (k : ℕ) → n.handle k ≡ cond (k == h) (Some p) (m.handle k)
  pub file : OpenedFile (m.file p) (n.file p)
  pub others : (q : Path) → (q ≢ p) → Both Same (m.file q) (n.file q)

-- power failed, and the new file is there, and empty
pub record Born (m : Files) (p : Path) (n : Files) (q : Path) : Type 0 where
  pub is : q ≡ p
  pub path : path_fits p ≡ true
  pub none : m.file p ≡ None
  pub room : m.count < 16
  pub file : Both Left (Some (firm [])) (n.file p)

abbrev pub Opened : Files → Path → Files → Result ℕ Fault → Type 0
Opened m p n (Ok h) = Opens m p h n
Opened m p n (Err e) =
    Failed m n e 16 (Born m p n)
    ⊎ (Declined m n e 4 16 (path_fits p ≡ false)
    ⊎ Declined m n e 7 16 ((path_fits p ≡ true) × (m.file p ≡ None) × (16 ≤ m.count)))

-- read(h, at, buffer) fills the buffer with current bytes
pub record Fetched (m : Files) (h at : ℕ) (old new : List ℕ) (n : Files) : Type 0 where
  pub reached : Reached m h
  pub within : at + length old ≤ m.limit
  pub is : new ≡ part reached.file.bytes at (length old)
  pub kept : Kept m n

-- old is what the buffer holds before the call, and new after it: zeros where power failed, and the same where the call is declined
abbrev pub HasRead : Files → ℕ → ℕ → List ℕ → List ℕ → Files → Result Unit Fault → Type 0
HasRead m h at old new n (Ok u) = Fetched m h at old new n
HasRead m h at old new n (Err e) =
    (Failed m n e h NoEffect × (new ≡ replicate (length old) 0))
    ⊎ (Declined m n e 20 h (OutOfReach m h (at + length old)) × (new ≡ old))

-- write(h, at, ds) replaces current bytes, and raises the current size to the end of the data if that is larger; no data changes nothing
pub record Put (m : Files) (h at : ℕ) (ds : List ℕ) (n : Files) : Type 0 where
  pub reached : Reached m h
  pub within : at + length ds ≤ m.limit
  pub steady : Steady m n
  pub nothing : length ds ≡ 0 → Kept m n
  pub file : Both (LooseChoice at ds) (m.file reached.path) (n.file reached.path)
  pub others : (q : Path) → (q ≢ reached.path) → Both FirmChoice (m.file q) (n.file q)

-- power failed, and the data may be found, all of it, none of it, or any of its bytes
pub record Wetted (m : Files) (h at : ℕ) (ds : List ℕ) (n : Files) (q : Path) : Type 0 where
  pub named : m.handle h ≡ Some q
  pub within : at + length ds ≤ m.limit
  pub file : Both (λ f g. Left (wet at ds f) g) (m.file q) (n.file q)

abbrev pub HasWritten : Files → ℕ → ℕ → List ℕ → Files → Result Unit Fault → Type 0
HasWritten m h at ds n (Ok u) = Put m h at ds n
HasWritten m h at ds n (Err e) = Failed m n e h (Wetted m h at ds n) ⊎ Declined m n e 20 h (OutOfReach m h (at + length ds))

-- sync leaves no position loose, and every sure size equal to the current size
abbrev pub synced : Files → Files
synced m = record { lit = m.lit; limit = m.limit; handle = m.handle; file = λ p. option_map (λ f. firm f.bytes) (m.file p); count = m.count }

abbrev pub Synced : Files → Files → Result Unit Fault → Type 0
Synced m n (Ok u) = (m.lit ≡ true) × (n ≡ synced m)
Synced m n (Err e) = Failed m n e 16 NoEffect

-- restart makes the found files current and all of them sure, voids all handles, and leaves the shelf lit
abbrev pub restarted : Files → Files
restarted m = record { lit = true; limit = m.limit; handle = λ h. None; file = λ p. option_map (λ f. firm f.found) (m.file p); count = m.count }

abbrev pub Restarted : Files → Files → Type 0
Restarted m n = n ≡ restarted m
