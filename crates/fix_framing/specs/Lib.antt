pub mod Frame
pub mod Stream
pub mod Examples
pub mod Seen
pub mod Scanned
pub mod Front
pub use Rattle.fix_fields.specs.Field
pub use Rattle.wire_streams.specs.Buffer
pub use Rattle.wire_bytes.specs as wire_bytes
pub use Rattle.fix_fields.specs as fix_fields
