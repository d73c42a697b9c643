-- What each refusal says to the person at the bench, as the bytes of an ASCII text.
use mathlib.Core.List.{List}
use Prim.Native.Nat.{ℕ}
use lib.Chars.{codes}
use Rattle·fault·specs.declared.refusal.Refusal.{Refusal}
use Rattle·fault·specs.declared.refusal.Refusal.the-variants.{DigestLength, KeyLength, StreamLength, DigestBuffer, NodeInput, LineForm, NumberRange, BytesLeft, LabelBuffer, ImageShape, PageStates, LockedPages, PairParts, PageAbsent, PageBuffer, PageUnreadable, PageLocked, HashUnfit, PageLength, NoPages, DepthLimit, TableLength, SealVoid, WorkBuffer, PageOpen, TicketPage, RootWhileOpen, NodeMarked, RootBuffer, PageList, LayoutExpected, LayoutRegistered, RegisteredPage}

abbrev pub sentenceOf : Refusal → List ℕ
sentenceOf DigestLength = codes "the digest length is not 1 to 64 bytes (variant b) or 1 to 32 bytes (variant s)"
sentenceOf KeyLength = codes "the key is longer than 64 bytes (variant b) or 32 bytes (variant s)"
sentenceOf StreamLength = codes "the stream would take more than 1099511627776 bytes in all"
sentenceOf DigestBuffer = codes "the output is not as long as the digest; the stream is used up"
sentenceOf NodeInput = codes "the input of a node is longer than 4096 bytes, or its output is not as long as the digest"
sentenceOf LineForm = codes "this line of the label is missing or is not of its form"
sentenceOf NumberRange = codes "the number on this line of the label is outside its range"
sentenceOf BytesLeft = codes "bytes are left after the last line; this is the line on which they begin"
sentenceOf LabelBuffer = codes "the buffer is shorter than the text of the label"
sentenceOf ImageShape = codes "the page length is not 64 to 4096 bytes, or the image has not 1 to 4096 pages"
sentenceOf PageStates = codes "the dump has not one state byte for each page, or a state byte is above 2"
sentenceOf LockedPages = codes "more pages are locked than the image has"
sentenceOf PairParts = codes "the two parts cannot be joined: one has no pages, their page lengths differ, the first does not end at a page boundary, or there are more than 4096 pages"
sentenceOf PageAbsent = codes "the image has no such page"
sentenceOf PageBuffer = codes "the buffer is not as long as this page"
sentenceOf PageUnreadable = codes "this page cannot be read"
sentenceOf PageLocked = codes "this page is locked"
sentenceOf HashUnfit = codes "the node hash does not fit its label: another variant, or another key length"
sentenceOf PageLength = codes "the page length of the image is not the one that the label names"
sentenceOf NoPages = codes "the image has no pages"
sentenceOf DepthLimit = codes "the tree over these pages has more layers than the depth of the label"
sentenceOf TableLength = codes "the node table is shorter than the records of the tree"
sentenceOf SealVoid = codes "the seal is void: its making was refused"
sentenceOf WorkBuffer = codes "the work buffer is not 4096 bytes long"
sentenceOf PageOpen = codes "a page is open already; put or withdraw it first"
sentenceOf TicketPage = codes "the page of this ticket is not the open page"
sentenceOf RootWhileOpen = codes "a page is open; put or withdraw it before the root is read"
sentenceOf NodeMarked = codes "a node is marked; step until none is left before the root is read"
sentenceOf RootBuffer = codes "the output is not as long as the digest"
sentenceOf PageList = codes "the list of pages does not rise strictly, or names a page that the image has not"
sentenceOf LayoutExpected = codes "the layout name is not the expected one"
sentenceOf LayoutRegistered = codes "the layout name is not in the register"
sentenceOf RegisteredPage = codes "the page length is not the one that the register has for this layout"
