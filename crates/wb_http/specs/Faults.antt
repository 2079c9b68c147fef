-- The faults of HTTP: their statuses and names.
use Rattle.std.specs.Prelude.{ℕ, List, codes}
use Rattle.wb_http.specs.declared.fault.HttpFault.{HttpFault}
use Rattle.wb_http.specs.declared.fault.HttpFault.TheVariants.{BadField, HeadTooLarge, Malformed, Memory, NoLength, NoRoute, TooLarge, WrongMethod}

abbrev pub fault_status : HttpFault → ℕ
fault_status HeadTooLarge = 431
fault_status Malformed = 400
fault_status NoRoute = 404
fault_status (WrongMethod method) = 405
fault_status NoLength = 411
fault_status TooLarge = 413
fault_status BadField = 422
fault_status Memory = 503

abbrev pub fault_name : HttpFault → List ℕ
fault_name HeadTooLarge = codes "head_too_large"
fault_name Malformed = codes "malformed"
fault_name NoRoute = codes "no_route"
fault_name (WrongMethod method) = codes "wrong_method"
fault_name NoLength = codes "no_length"
fault_name TooLarge = codes "too_large"
fault_name BadField = codes "bad_field"
fault_name Memory = codes "store"
