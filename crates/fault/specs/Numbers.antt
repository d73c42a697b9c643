-- Each refusal's number, and the module that it belongs to.
use Rattle.std.specs.Prelude.{ℕ, cond, List, codes, nat_lt}
use Rattle.fault.specs.declared.refusal.Refusal.{Refusal}
use Rattle.fault.specs.declared.refusal.Refusal.TheVariants.{DigestLength, KeyLength, StreamLength, DigestBuffer, NodeInput, LineForm, NumberRange, BytesLeft, LabelBuffer, ImageShape, PageStates, LockedPages, PairParts, PageAbsent, PageBuffer, PageUnreadable, PageLocked, HashUnfit, PageLength, NoPages, DepthLimit, TableLength, SealVoid, WorkBuffer, PageOpen, TicketPage, RootWhileOpen, NodeMarked, RootBuffer, PageList, LayoutExpected, LayoutRegistered, RegisteredPage}
use Rattle.fault.specs.declared.module.Module.{Module}
use Rattle.fault.specs.declared.module.Module.TheVariants.{Stream, Hash, Label, Image, Seal, Check}

-- The number that C and the program's output have for a refusal.
abbrev pub number_of : Refusal → ℕ
number_of DigestLength = 11
number_of KeyLength = 12
number_of StreamLength = 13
number_of DigestBuffer = 14
number_of NodeInput = 15
number_of LineForm = 21
number_of NumberRange = 22
number_of BytesLeft = 23
number_of LabelBuffer = 24
number_of ImageShape = 31
number_of PageStates = 32
number_of LockedPages = 33
number_of PairParts = 34
number_of PageAbsent = 35
number_of PageBuffer = 36
number_of PageUnreadable = 37
number_of PageLocked = 38
number_of HashUnfit = 41
number_of PageLength = 42
number_of NoPages = 43
number_of DepthLimit = 44
number_of TableLength = 45
number_of SealVoid = 46
number_of WorkBuffer = 47
number_of PageOpen = 48
number_of TicketPage = 49
number_of RootWhileOpen = 50
number_of NodeMarked = 51
number_of RootBuffer = 52
number_of PageList = 53
number_of LayoutExpected = 61
number_of LayoutRegistered = 62
number_of RegisteredPage = 63

-- The module whose call is the first to give a refusal: the numbers of a module stand together.
abbrev pub module_of : Refusal → Module
module_of refusal =
    let n = number_of refusal in
    cond (nat_lt n 15) Stream
    (cond (nat_lt n 21) Hash
    (cond (nat_lt n 31) Label
    (cond (nat_lt n 41) Image
    (cond (nat_lt n 61) Seal Check))))

-- The name that the program's output has for a module.
abbrev pub name_of : Module → List ℕ
name_of Stream = codes "stream"
name_of Hash = codes "hash"
name_of Label = codes "label"
name_of Image = codes "image"
name_of Seal = codes "seal"
name_of Check = codes "check"
