-- What a call comes to that writes its result to the front of a lent output.
pub mod Delivered
pub mod InnerPlaces
