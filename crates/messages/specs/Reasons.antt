-- Why a file couldn't be opened or written, in words.
use Rattle.std.specs.Prelude.{ℕ, ℤ, pos, List, [], ◌∷◌, ◌++◌, Option, Some, None, codes, if◌then◌else◌}
use Rattle.std.specs.Ordering.{int_eq}
use Rattle.std.specs.declared.io.ErrorKind.{ErrorKind}
use Rattle.std.specs.declared.io.ErrorKind.TheVariants as kind
use Rattle.messages.specs.declared.reason.Reason.{Reason}
use Rattle.messages.specs.declared.reason.Reason.TheVariants as reason

-- the words of the C library, in lower case, for the kinds of errors that a file can give
abbrev pub system_words : ErrorKind → List ℕ
system_words kind.NotFound = codes "no such file or directory"
system_words kind.PermissionDenied = codes "permission denied"
system_words kind.AlreadyExists = codes "file exists"
system_words kind.NotADirectory = codes "not a directory"
system_words kind.IsADirectory = codes "is a directory"
system_words kind.DirectoryNotEmpty = codes "directory not empty"
system_words kind.ReadOnlyFilesystem = codes "read-only file system"
system_words kind.FilesystemLoop = codes "too many levels of symbolic links"
system_words kind.InvalidFilename = codes "file name too long"
system_words kind.InvalidInput = codes "invalid argument"
system_words kind.StorageFull = codes "no space left on device"
system_words kind.QuotaExceeded = codes "disk quota exceeded"
system_words kind.FileTooLarge = codes "file too large"
system_words kind.ResourceBusy = codes "device or resource busy"
system_words kind.ExecutableFileBusy = codes "text file busy"
system_words kind.BrokenPipe = codes "broken pipe"
system_words kind.StaleNetworkFileHandle = codes "stale file handle"
system_words kind.OutOfMemory = codes "cannot allocate memory"
system_words _ = []

-- the reason that an error gives, by the system's number, if it has one, and its kind: number 5, an error of the device, has no kind
-- of its own
abbrev pub reason_of : Option ℤ → ErrorKind → Reason
reason_of None kind = reason.System kind
reason_of (Some code) kind = if int_eq code (pos 5) then reason.InputOutput else reason.System kind

abbrev pub reason_words : Reason → List ℕ
reason_words reason.HasBytes = codes "it has bytes"
reason_words reason.NoMemory = codes "no memory"
reason_words reason.InputOutput = codes "input/output error"
reason_words (reason.System kind) = system_words kind
reason_words reason.Unknown = []

-- words in brackets behind a space, if there are any
abbrev pub in_brackets : List ℕ → List ℕ
in_brackets [] = []
in_brackets (first ∷ rest) = codes " (" ++ (first ∷ rest) ++ codes ")"

abbrev pub reason_text : Reason → List ℕ
reason_text reason = in_brackets (reason_words reason)
